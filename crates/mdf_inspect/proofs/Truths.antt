-- What is shown of a file of which all was found is of its measurement, and what is refused of it is true.
use Rattle.std.proofs.Common.{◌≡◌, ℕ, Bool, true, false, List, Option, Some, None, IsSome, Ok, Err, refl, sym, ◌∙◌, ap, subst}
use Rattle.std.specs.Prelude.{◌&&◌, ◌↔◌, IsTrue, nat_eq, if◌then◌else◌}
use Rattle.mdf_block.specs.Refusal.{Fails, Read, Refusal, Refuses, ◌>>=◌}
use Rattle.mdf_block.proofs.Refusals.{bind_ok}
use Rattle.mdf_block.proofs.Truths.{Refusing, refusing_none, refusing_then, fails_with}
use Rattle.mdf_group.specs.declared.row.GroupRow.{GroupRow}
use Rattle.mdf_head.specs.Ident.{identify}
use Rattle.mdf_head.specs.declared.identity.Ident.{Ident}
use Rattle.mdf_content.specs.declared.fault.ReadFault.{ReadFault}
use Rattle.mdf_content.specs.Fault.{read_refusal}
use Rattle.mdf_model.specs.declared.whole.WholeFound.{WholeFound}
use Rattle.mdf_model.specs.Found.{all_found, whole_found}
use Rattle.mdf_model.specs.Measurement.{measured_from, Measured, measurement}
use Rattle.mdf_model.specs.InWords.{IsValidFile}
use Rattle.mdf_model.specs.Tree.{finalized, finalized_by, tree}
use Rattle.mdf_model.specs.Truth.{IsTrueOfFile}
use Rattle.mdf_model.proofs.Fetches.{measurement_is}
use Rattle.mdf_model.proofs.Files.{identify_refused, measurement_true}
use Rattle.mdf_model.proofs.Stricts.{strict_is_valid}
use Rattle.mdf_model.proofs.Wholes.{measurement_found}
use Rattle.mdf_paged.specs.Groups.{is_strict, shown_groups}
use Rattle.mdf_paged.proofs.Measures.{seen_ok, strict_fetched}
use Rattle.mdf_paged.proofs.Shown.{shown_are}
use Rattle.mdf_inspect.specs.Reading.{IsReading, IsRefused, Reading, reading, reading_of, shown_of}

reading_true : (f : List ℕ) → Refusing (IsTrueOfFile f) (reading f)
unfolding reading
reading_true f =
    refusing_then (IsTrueOfFile f) (identify f) _ (record { tells = identify_refused f }) (λ id _.
    refusing_then (IsTrueOfFile f) (measurement f) _ (measurement_true f) (λ found _. refusing_none (IsTrueOfFile f) _))

ok_is : {A : Type 0} (x y : A) → ◌≡◌ {A = Read A} (Ok x) (Ok y) → x ≡ y
ok_is x y same = cc

chosen_ident : (b : Bool) (refusal : Refusal) (id other : Ident) → ◌≡◌ {A = Read Ident} (if b then Ok id else Err refusal) (Ok other) → id ≡ other
chosen_ident true refusal id other is = let same : ◌≡◌ {A = Read Ident} (Ok id) (Ok other) = is in cc
chosen_ident false refusal id other is = let wrong : ◌≡◌ {A = Read Ident} (Err refusal) (Ok other) = is in cc

-- what is refused as a whole is refused where it is identified first
refused_first : {A B C : Type 0} (ident : Read Ident) (rest : Ident → Read A) (read : Read B) (next : Ident → B → Read C) (refusal : Refusal)
    → ((ident >>= finalized_by) >>= rest) ≡ Err refusal → read ≡ Err refusal → (ident >>= λ id. read >>= next id) ≡ Err refusal
refused_first (Ok id) rest read next refusal whole is = ap (λ (one : Read _). one >>= next id) is
refused_first {A} (Err other) rest read next refusal whole is =
    let same : ◌≡◌ {A = Read A} (Err other) (Err refusal) = whole in
    let one : other ≡ refusal = cc in cc

abbrev shown_after : Ident → Measured → Read Reading
shown_after id found = Ok (shown_of id.ver found)

module _ (file : List ℕ) where
  module _ (all : WholeFound) (read : whole_found file ≡ Ok all) where
    same_strict : (measured_from file all).strict ≡ is_strict all
    same_strict = ap (λ (b : Bool). nat_eq all.ident.std_flags 0 && (nat_eq all.ident.custom_flags 0 && b)) (sym (strict_fetched file all.found))

    shown_is : shown_of all.ident.ver (measured_from file all) ≡ reading_of all
    shown_is =
        let found = measured_from file all in
        let make : List (GroupRow × ℕ) → Bool → Reading = λ groups strict. record { version = all.ident.ver; groups = groups; dropped = found.dropped; strict = strict } in
        ap (λ (groups : List (GroupRow × ℕ)). make groups found.strict) (sym (shown_are file all read)) ∙ ap (λ (strict : Bool). make (shown_groups all) strict) same_strict

    ident_is : identify file ≡ Ok all.ident
    unfolding whole_found finalized
    ident_is =
        let ident = bind_ok (finalized file) _ all read in
        let data_tree = bind_ok (tree file) _ all ident.2 in
        let found = bind_ok (all_found file data_tree.0.rows) _ all data_tree.2 in
        let id = bind_ok (identify file) finalized_by ident.0 ident.1 in
        id.1 ∙ ap Ok (chosen_ident _ _ id.0 ident.0 id.2 ∙ ap (λ (one : WholeFound). one.ident) (ok_is _ all found.2))

    reading_is : reading file ≡ Ok (reading_of all)
    unfolding reading
    reading_is =
        ap (λ (ident : Read Ident). ident >>= λ id. measurement file >>= shown_after id) ident_is
        ∙ ap (λ (found : Read Measured). found >>= shown_after all.ident) (seen_ok file all read)
        ∙ ap Ok shown_is

    pub is_reading : IsReading (reading_of all) file
    is_reading = record {
      is_read = reading_is;
      is = measured_from file all;
      measured = measurement_found file (measured_from file all) (seen_ok file all read);
      shown = sym shown_is;
      valid = subst (λ (b : Bool). IsTrue b ↔ IsValidFile file) same_strict (strict_is_valid file (measured_from file all) (seen_ok file all read));
    }

  refused_is : (refusal : Refusal) → whole_found file ≡ Err refusal → reading file ≡ Err refusal
  unfolding reading whole_found finalized
  refused_is refusal is =
      refused_first (identify file) _ (measurement file) shown_after refusal is
      (measurement_is file ∙ ap (λ (found : Read WholeFound). found >>= λ all. Ok (measured_from file all)) is)

  refused_by : (refused : ReadFault) (refusal : Option Refusal) → read_refusal refused ≡ refusal → Refuses refusal (whole_found file) → IsRefused refused file
  refused_by refused None is halted = absurd halted
  refused_by refused (Some refusal) is halted =
      let fails = subst (λ (one : Option Refusal). Fails one (reading file)) (sym is) (refused_is refusal halted) in record {
        some = subst IsSome (sym is) refl;
        is_refused = fails;
        holds = fails_with (IsTrueOfFile file) (read_refusal refused) (reading file) (reading_true file) fails;
      }

  pub is_refused : (refused : ReadFault) → Refuses (read_refusal refused) (whole_found file) → IsRefused refused file
  is_refused refused halted = refused_by refused (read_refusal refused) refl halted
