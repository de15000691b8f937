-- The opened blocks of a recording, and what a reader finds of them.
use Rattle.std.proofs.Common.{◌≡◌, ◌+◌, ◌≤◌, ℕ, zero, suc, true, false, List, [], ◌∷◌, ◌++◌, length, get_or, drop, sum_by, Ok, Err, refl, sym, ◌∙◌, ap, subst, ◌⊎◌, inl, inr, arith, length-drop}
use Rattle.std.proofs.lemmas.Bool.{eq-eqb, eqb-true, eqb-false, ne_eqb, cond-true, cond-false}
use Rattle.std.proofs.lemmas.List.{length-take-le}
use Rattle.std.proofs.lemmas.List.Sums.{sum_by-cons}
use Rattle.std.proofs.Math.ListN.{get_or-eq_default}
use Rattle.std.specs.Prelude.{Bool, not, nat_eq, ◌||◌, ◌%◌}
use Rattle.std.specs.List.{concat}
use Rattle.mdf_format.specs.Form.{form_of}
use Rattle.mdf_format.specs.declared.form.Form.{Form}
use Rattle.mdf_format.specs.Block.{body_at, body_size, header_size, links_at}
use Rattle.mdf_format.specs.declared.kind.Kind.{Kind}
use Rattle.mdf_format.specs.declared.kind.Kind.TheVariants.{Dt}
use Rattle.mdf_block.specs.declared.place.BlockAt.{BlockAt}
use Rattle.mdf_block.specs.Block.{the_block}
use Rattle.mdf_block.specs.Refusal.{Bad, Read, Refuses, ◌>>=◌}
use Rattle.mdf_block.specs.Refusal as refusals
use Rattle.mdf_block.proofs.Wholes.{chosen}
use Rattle.mdf_block.proofs.Cases.{ok_injective, two_ways}
use Rattle.mdf_stream.specs.declared.part.Part.{Part}
use Rattle.mdf_stream.specs.Parts.{stream_of, stream_size, ArePartsInside}
use Rattle.mdf_stream.specs.Link.{part_of}
use Rattle.mdf_gate.specs.Units.{is_open, unit, place_behind, opened_from, is_place, opened_parts}
use Rattle.mdf_gate.specs.Unit.{block_place, next_place, AreUnits, IsOpenPlace, IsUnit}
use Rattle.mdf_gate.specs.Recording.{IsPlace, IsRecording, IsOpened, HasNoOpened, first_place}
use Rattle.mdf_gate.specs.Opened.{IsCountOf}
use Rattle.mdf_gate.specs.Fault.{HasFault, HasNoUnit, IsReached, gate_refusal}
use Rattle.mdf_gate.specs.Scan.{AreCounted, place_after}
use Rattle.mdf_gate.specs.declared.answer.GateFault.{GateFault}
use Rattle.mdf_gate.specs.declared.answer.GateFault.TheVariants as faults
use Rattle.mdf_gate.specs.declared.answer.Opened.{Opened}
use Rattle.mdf_gate.proofs.Found.{behind_is, later, no_unit, not_both, unit_finds}
use Rattle.mdf_gate.proofs.Once.{open_gate, units_once}

-- units stand from a place on up to a closed one, and their data are the stream of these parts
pub record AreOpened (form : Form) (f : List ℕ) (place : ℕ) (parts : List Part) : Type 0 where
  pub blocks : List (List ℕ)
  pub last : ℕ
  pub units : AreUnits form f place blocks last
  pub closed : ¬ IsOpenPlace f last
  pub bytes : stream_of f parts ≡ concat blocks
  pub inside : ArePartsInside (length f) parts
  pub number : length blocks ≡ length parts
  pub total : sum_by length blocks ≡ stream_size parts
  pub ends : last ≡ place_after place parts

-- what is missing at the first open place without a unit
record IsLacking (form : Form) (f : List ℕ) (place at : ℕ) (want : Kind) : Type 0 where
  stop : ℕ
  reached : IsReached form f place stop
  unit : HasNoUnit form f stop at want

-- these parts are read, and are the data of the blocks
pub record AreFound (file : List ℕ) (read : Read (List Part)) (blocks : List (List ℕ)) : Type 0 where
  pub parts : List Part
  pub found : read ≡ Ok parts
  pub bytes : stream_of file parts ≡ concat blocks
  pub inside : ArePartsInside (length file) parts

-- no byte stands behind the end
not_open : (n : ℕ) → n ≡ 0 → n ≡ 35 → ⊥
not_open n none gate = omega (arith, none, gate)

past_closed : (f : List ℕ) (place : ℕ) → length f ≤ place + 0 → ¬ IsOpenPlace f place
past_closed f place past opens =
    let within : length f ≤ place = omega (arith, past) in not_open (get_or f place 0) (get_or-eq_default f 0 within) opens

-- the first place
place_is : (first : ℕ) → is_place first ≡ true → IsPlace first
place_is first is = elim (two_ways (nat_eq first 0)) [
  | inl none ↦ let wrong : false ≡ true = sym (ap (λ (b : Bool). not (b || not (nat_eq (first % 8) 0))) none) ∙ is in cc
  | inr some ↦ elim (two_ways (nat_eq (first % 8) 0)) [
    | inl on ↦ record { there = eqb-false first 0 some; on_eight = eqb-true (first % 8) 0 on }
    | inr off ↦
        let wrong : false ≡ true = sym (ap (λ (b : Bool). not (b || not (nat_eq (first % 8) 0))) some ∙ ap (λ (b : Bool). not (not b)) off) ∙ is in cc
  ]
]

is_place_of : (first : ℕ) → IsPlace first → is_place first ≡ true
is_place_of first place =
    ap (λ b. not (b || not (nat_eq (first % 8) 0))) (ne_eqb first 0 place.there) ∙ ap (λ b. not (not b)) (eq-eqb (first % 8) 0 place.on_eight)

module _ (form : Form) (f : List ℕ) where
  no_more : (place : ℕ) → ¬ IsOpenPlace f place → AreOpened form f place []
  unfolding AreUnits place_after
  no_more place closed = record {
    blocks = [];
    last = place;
    units = refl;
    closed = closed;
    bytes = refl;
    inside = tt;
    number = refl;
    total = refl;
    ends = refl;
  }

  one_more : (place : ℕ) (parts : List Part) → IsUnit form f place → AreOpened form f (next_place form f place) parts
      → AreOpened form f place (part_of (the_block f (block_place form place) Dt) ∷ parts)
  unfolding AreUnits place_after
  one_more place parts unit rest =
      let at = block_place form place in
      let b = the_block f at Dt in
      let block = unit.block in
      let long : length (body_at f at) ≡ b.body_len =
      length-take-le (body_size f at) (drop (at + header_size (links_at f at)) f)
      (omega (arith, block.headed, block.whole, length-drop (at + header_size (links_at f at)) f)) in record {
        blocks = body_at f at ∷ rest.blocks;
        last = rest.last;
        units = (unit, refl, rest.units);
        closed = rest.closed;
        bytes = ap (λ (xs : List ℕ). body_at f at ++ xs) rest.bytes;
        inside = (omega (arith, block.headed, block.whole), rest.inside);
        number = ap suc rest.number;
        total =
            sum_by-cons length (body_at f at) rest.blocks
            ∙ ap (λ (n : ℕ). length (body_at f at) + n) rest.total
            ∙ ap (λ (n : ℕ). n + stream_size parts) long
            ∙ sym (sum_by-cons (λ (part : Part). part.len) (part_of b) parts);
        ends = rest.ends ∙ ap (λ (n : ℕ). place_after n parts) (sym (behind_is form f place unit));
      }

  lacks_later : (place at : ℕ) (want : Kind) → IsUnit form f place → IsLacking form f (next_place form f place) at want → IsLacking form f place at want
  unfolding AreUnits
  lacks_later place at want unit rest =
      let reached = rest.reached in record {
        stop = rest.stop;
        reached = record {
          bodies = body_at f (block_place form place) ∷ reached.bodies;
          units = (unit, refl, reached.units);
          is_open = reached.is_open;
        };
        unit = rest.unit;
      }

  -- all units are read up to a closed place, or what is missing is told
  abbrev OpenedFinds : ℕ → ℕ → Type 0
  OpenedFinds most place =
      ((parts : List Part) × (opened_from form f most place ≡ Ok parts) × AreOpened form f place parts)
      ⊎ ((at : ℕ) × (want : Kind) × (opened_from form f most place ≡ Err (Bad at want)) × IsLacking form f place at want)

  opened_finds : (most place : ℕ) → length f ≤ place + most → OpenedFinds most place
  unfolding opened_from AreUnits
  opened_finds zero place enough = inl ([], refl, no_more place (past_closed f place enough))
  opened_finds (suc most) place enough =
      let behind : BlockAt → Read (List Part) = λ b. opened_from form f most (place_behind b) >>= λ rest. Ok (part_of b ∷ rest) in
      let whole = unit form f place >>= behind in
      elim (two_ways (is_open f place)) [
        | inl opens ↦
            let go = cond-true (is_open f place) whole (Ok []) opens in
            elim (unit_finds form f place) [
              | inl found ↦
                  let b = the_block f (block_place form place) Dt in
                  let joined : Read (List Part) → Read (List Part) = λ read. read >>= λ rest. Ok (part_of b ∷ rest) in
                  let read =
                  go ∙ ap (λ (r : Read BlockAt). r >>= behind) found.1
                  ∙ ap (λ (n : ℕ). joined (opened_from form f most n)) (behind_is form f place found.0) in
                  elim (opened_finds most (next_place form f place) (omega (arith, enough, later form f place found.0))) [
                    | inl rest ↦ inl (part_of b ∷ rest.0, read ∙ ap joined rest.1, one_more place rest.0 found.0 rest.2)
                    | inr lacks ↦ inr (lacks.0, lacks.1, read ∙ ap joined lacks.2, lacks_later place lacks.0 lacks.1 found.0 lacks.3)
                  ]
              | inr none ↦ inr (
                none.0,
                none.1,
                go ∙ ap (λ (r : Read BlockAt). r >>= behind) none.3,
                record {
                  stop = place;
                  reached = record { bodies = []; units = refl; is_open = eqb-true (get_or f place 0) 35 opens };
                  unit = none.2;
                },
              )
            ]
        | inr closed ↦ inl (
          [],
          cond-false (is_open f place) whole (Ok []) closed,
          no_more place (eqb-false (get_or f place 0) 35 closed),
        )
      ]

  -- units up to an open place without a unit are all
  units_open : (place stop last : ℕ) (bodies others : List (List ℕ)) → AreUnits form f place bodies stop → IsOpenPlace f stop → ¬ IsUnit form f stop
      → AreUnits form f place others last → IsOpenPlace f last
  unfolding AreUnits
  units_open place stop last [] [] are opens none ends = subst (IsOpenPlace f) (are ∙ sym ends) opens
  units_open place stop last [] (other ∷ others) are opens none more = absurd (none (subst (IsUnit form f) (sym are) more.0))
  units_open place stop last (body ∷ bodies) [] are opens none ends = subst (IsOpenPlace f) (sym ends) (open_gate form f place are.0)
  units_open place stop last (body ∷ bodies) (other ∷ others) are opens none more =
      units_open (next_place form f place) stop last bodies others are.2 opens none more.2

  units_read : (first last : ℕ) (blocks : List (List ℕ)) → AreUnits form f first blocks last → ¬ IsOpenPlace f last
      → AreFound f (opened_from form f (length f) first) blocks
  units_read first last blocks units closed = elim (opened_finds (length f) first (omega arith)) [
    | inl found ↦
        let are = found.2 in record {
          parts = found.0;
          found = found.1;
          bytes = are.bytes ∙ ap concat (units_once form f first are.last last are.blocks blocks are.units units are.closed closed);
          inside = are.inside;
        }
    | inr lacks ↦
        let reached = lacks.3.reached in
        absurd (closed (units_open first lacks.3.stop last reached.bodies blocks reached.units reached.is_open
        (no_unit form f lacks.3.stop lacks.0 lacks.1 lacks.3.unit) units))
  ]

  units_found : (first : ℕ) (parts : List Part) → opened_from form f (length f) first ≡ Ok parts → AreOpened form f first parts
  units_found first parts is = elim (opened_finds (length f) first (omega arith)) [
    | inl found ↦ subst (AreOpened form f first) (ok_injective found.0 parts (sym found.1 ∙ is)) found.2
    | inr lacks ↦ absurd (not_both (opened_from form f (length f) first) parts (Bad lacks.0 lacks.1) is lacks.2)
  ]

  pub opened_found : (first : ℕ) (parts : List Part) → opened_parts form f first ≡ Ok parts → IsPlace first × AreOpened form f first parts
  unfolding opened_parts
  opened_found first parts is =
      elim (chosen (is_place first) (opened_from form f (length f) first) (Err (Bad first Dt)) (Ok parts) is) [
        | inl placed ↦ (place_is first placed.0, units_found first parts placed.1)
        | inr none ↦ let wrong : ◌≡◌ {A = Read (List Part)} (Err (Bad first Dt)) (Ok parts) = none.1 in cc
      ]

-- the opened blocks of a recording are read, from its first place on
pub blocks_found : (file : List ℕ) (blocks : List (List ℕ)) → IsOpened file blocks → AreFound file (opened_parts (form_of file) file (first_place file)) blocks
unfolding opened_parts
blocks_found file blocks opened =
    let first = first_place file in
    let is = opened.1 in
    let all = units_read (form_of file) file first opened.0 blocks is.units is.closed in record {
      parts = all.parts;
      found =
          cond-true (is_place first) (opened_from (form_of file) file (length file) first) (Err (Bad first Dt)) (is_place_of first is.recording.place)
          ∙ all.found;
      bytes = all.bytes;
      inside = all.inside;
    }

-- the opened blocks of a recording, counted
pub is_count : (file : List ℕ) (form : Form) (first : ℕ) (count : Opened) → IsRecording file → form ≡ form_of file → first ≡ first_place file
    → AreCounted form file first count → IsCountOf file count
is_count file form first count recording form_is first_is found =
    let counted : AreCounted (form_of file) file (first_place file) count =
    subst (λ (n : ℕ). AreCounted (form_of file) file n count) first_is (subst (λ (f : Form). AreCounted f file first count) form_is found) in
    let all = units_found (form_of file) file (first_place file) counted.parts counted.found in record {
      bodies = all.blocks;
      opened = record {
        recording = recording;
        units = subst (λ (n : ℕ). AreUnits (form_of file) file (first_place file) all.blocks n) (all.ends ∙ sym counted.next) all.units;
        closed = λ opens. all.closed (subst (IsOpenPlace file) (counted.next ∙ sym all.ends) opens);
      };
      number = counted.number ∙ sym all.number;
      total = counted.total ∙ sym all.total;
      from = counted.from;
    }

-- a file whose blocks are refused has none
refuted : (fault : GateFault) (read : Read (List Part)) (parts : List Part) → read ≡ Ok parts → Refuses (gate_refusal fault) read → ⊥
refuted faults.NotMdf read parts found refused = not_both read parts refusals.NotMdf found refused
refuted (faults.Version ver) read parts found refused = not_both read parts (refusals.Version ver) found refused
refuted (faults.NotRecording std custom) read parts found refused = not_both read parts (refusals.NotRecording std custom) found refused
refuted (faults.Bad at want) read parts found refused = not_both read parts (Bad at want) found refused

is_bad : (fault : GateFault) (read : Read (List Part)) (at : ℕ) (want : Kind) → read ≡ Err (Bad at want) → Refuses (gate_refusal fault) read
    → fault ≡ faults.Bad at want
is_bad faults.NotMdf read at want bad refused = let wrong : ◌≡◌ {A = Read (List Part)} (Err (Bad at want)) (Err refusals.NotMdf) = sym bad ∙ refused in cc
is_bad (faults.Version ver) read at want bad refused =
    let wrong : ◌≡◌ {A = Read (List Part)} (Err (Bad at want)) (Err (refusals.Version ver)) = sym bad ∙ refused in cc
is_bad (faults.NotRecording std custom) read at want bad refused =
    let wrong : ◌≡◌ {A = Read (List Part)} (Err (Bad at want)) (Err (refusals.NotRecording std custom)) = sym bad ∙ refused in cc
is_bad (faults.Bad stop kind) read at want bad refused =
    let same : ◌≡◌ {A = Read (List Part)} (Err (Bad at want)) (Err (Bad stop kind)) = sym bad ∙ refused in
    let places : stop ≡ at = cc in
    let kinds : kind ≡ want = cc in
    ap (λ n. faults.Bad n kind) places ∙ ap (faults.Bad at) kinds

module _ (file : List ℕ) (fault : GateFault) (refused : Refuses (gate_refusal fault) (opened_from (form_of file) file (length file) (first_place file))) where
  abbrev read : Read (List Part)
  read = opened_from (form_of file) file (length file) (first_place file)

  pub stuck_none : HasNoOpened file
  stuck_none blocks opened =
      let all = units_read (form_of file) file (first_place file) opened.0 blocks opened.1.units opened.1.closed in
      refuted fault read all.parts all.found refused

  pub stuck_fault : IsRecording file → HasFault file fault
  stuck_fault recording = elim (opened_finds (form_of file) file (length file) (first_place file) (omega arith)) [
    | inl found ↦ absurd (refuted fault read found.0 found.1 refused)
    | inr lacks ↦
        let unit = lacks.3 in
        subst (HasFault file) (sym (is_bad fault read lacks.0 lacks.1 lacks.2 refused))
        (inr (inr (inr (record { recording = recording; place = unit.stop; reached = unit.reached; unit = unit.unit }))))
  ]
