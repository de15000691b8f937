-- The two writes of a block: the payload behind the last gate of a file, and that gate.
use Rattle.std.proofs.Common.{◌≡◌, inl, inr, ℕ, ◌+◌, ◌≤◌, List, [], ◌∷◌, ◌++◌, length, take, drop, get_or, Option, Some, None, is_some, Result, Ok, Err, sym, ◌∙◌, ap, subst, arith, take-append-drop, append_assoc, length-append}
use Rattle.std.specs.Prelude.{IfSome, OnOk, OnErr}
use Rattle.std.specs.Option.{option_map}
use Rattle.std.proofs.lemmas.List.{take_all, drop_all, drop_more, append-nil, length-take-le}
use Rattle.mdf_format.specs.Number.{patched}
use Rattle.mdf_disk.specs.Story.{Moment, Story, settled}
use Rattle.mdf_disk.specs.Crash.{NowHas}
use Rattle.mdf_disk.specs.declared.disk.Disk.{Ghosts}
use Rattle.mdf_seal.specs.Seal.{IsKept, synced}
use Rattle.mdf_gate.specs.Written.{opened_at}
use Rattle.mdf_gate.specs.Images.{IsTorn, IsStage, IsStaged}
use Rattle.mdf_gate.specs.Appended.{HasOpened, HasStaged}
use Rattle.mdf_gate.proofs.Left.{left_behind, left_one, patched_gate}

-- two facts about a success make a third
pub both_ok : {T E : Type 0} (A B C : Type 0) (result : Result T E) → OnOk result A → OnOk result B → (A → B → C) → OnOk result C
both_ok A B C (Ok done) one other make = make one other
both_ok A B C (Err e) one other make = tt

-- what holds holds at an error too
pub on_err : {T E : Type 0} (A : Type 0) (result : Result T E) → A → OnErr result A
on_err A (Ok done) one = tt
on_err A (Err e) one = one

-- the first write is not kept
pub none_staged : (old new : Option Story) (kept payload : List ℕ) → synced new ≡ synced old → NowHas old (λ moment. moment ≡ settled kept)
    → IfSome (synced new) (IsStaged kept payload)
none_staged old new kept payload same now = subst (λ s. IfSome s (IsStaged kept payload)) (sym same) (before old now)
  where
    before : (old : Option Story) → NowHas old (λ moment. moment ≡ settled kept) → IfSome (synced old) (IsStaged kept payload)
    before None now = tt
    before (Some story) now = inl (ap (λ (m : Moment). m.stable) now)

-- a content after two changes
pub changed_twice : (old mid new : Option (List ℕ)) (f g : List ℕ → List ℕ) (kept : List ℕ) → IfSome old (λ file. file ≡ kept) → mid ≡ option_map f old
    → new ≡ option_map g mid → IfSome new (λ file. file ≡ g (f kept))
changed_twice None mid new f g kept holds first second = subst (λ c. IfSome c (λ file. file ≡ g (f kept))) (sym (second ∙ ap (option_map g) first)) tt
changed_twice (Some file) mid new f g kept holds first second =
    subst (λ c. IfSome c (λ file. file ≡ g (f kept))) (sym (second ∙ ap (option_map g) first)) (ap (λ (l : List ℕ). g (f l)) holds)

module _ (place : ℕ) (kept payload : List ℕ) (ends : length kept ≡ place + 1) where
  long : length (take place kept) ≡ place
  long = length-take-le place kept (omega (arith, ends))

  parts : kept ≡ take place kept ++ get_or kept place 0 ∷ []
  parts =
      sym (take-append-drop place kept)
      ∙ ap (λ (rest : List ℕ). take place kept ++ rest) (drop_more kept place 0 (omega (arith, ends))
      ∙ ap (λ (rest : List ℕ). get_or kept place 0 ∷ rest) (drop_all (place + 1) kept (omega (arith, ends))))

  behind : patched (place + 1) payload kept ≡ kept ++ payload
  behind =
      ap (λ (before : List ℕ). before ++ payload ++ drop (place + 1 + length payload) kept) (take_all (place + 1) kept (omega (arith, ends)))
      ∙ ap (λ (rest : List ℕ). kept ++ payload ++ rest) (drop_all (place + 1 + length payload) kept (omega (arith, ends)))
      ∙ append-nil (kept ++ payload)

  -- the payload stands behind the last gate
  staged : patched (place + 1) payload kept ≡ take place kept ++ get_or kept place 0 ∷ payload
  staged =
      behind
      ∙ ap (λ (before : List ℕ). before ++ payload) parts
      ∙ append_assoc (take place kept) (get_or kept place 0 ∷ []) payload

  pub first_stage : (file : List ℕ) → IsTorn (place + 1) (length payload) kept file → IsStage place kept payload file
  first_stage file torn = inl (left_behind kept payload file (subst (λ (at : ℕ). IsTorn at (length payload) kept file) (sym ends) torn))

  pub second_stage : (file : List ℕ) → IsTorn place 1 (patched (place + 1) payload kept) file → IsStage place kept payload file
  second_stage file torn =
      let whole = subst (λ (bytes : List ℕ). IsTorn place 1 bytes file) staged torn in
      inr (left_one (take place kept) (get_or kept place 0) payload file (subst (λ (at : ℕ). IsTorn at 1 (take place kept ++ get_or kept place 0 ∷ payload) file) (sym long) whole))

  -- the first write is kept, and the second is not
  pub all_staged : (mid new : Option Story) → synced new ≡ synced mid → NowHas mid (λ moment. moment ≡ settled (patched (place + 1) payload kept))
      → IfSome (synced new) (IsStaged kept payload)
  all_staged mid new same now = subst (λ s. IfSome s (IsStaged kept payload)) (sym same) (after mid now)
    where
      after : (mid : Option Story) → NowHas mid (λ moment. moment ≡ settled (patched (place + 1) payload kept)) → IfSome (synced mid) (IsStaged kept payload)
      after None now = tt
      after (Some story) now = inr (ap (λ (m : Moment). m.stable) now ∙ behind)

  -- the gate is open
  pub opened : patched place (35 ∷ []) (patched (place + 1) payload kept) ≡ take place kept ++ 35 ∷ payload
  opened =
      ap (patched place (35 ∷ [])) staged
      ∙ ap (λ (at : ℕ). patched at (35 ∷ []) (take place kept ++ get_or kept place 0 ∷ payload)) (sym long)
      ∙ patched_gate (take place kept) (get_or kept place 0) 35 payload

-- a content that ends at the place, after both writes
pub written_twice : (place : ℕ) (payload : List ℕ) (old mid new : Option (List ℕ)) → IfSome old (λ file. length file ≡ place + 1)
    → mid ≡ option_map (patched (place + 1) payload) old → new ≡ option_map (patched place (35 ∷ [])) mid
    → new ≡ option_map (opened_at place payload) old
written_twice place payload None mid new ends first second = second ∙ ap (option_map (patched place (35 ∷ []))) first
written_twice place payload (Some file) mid new ends first second =
    second ∙ ap (option_map (patched place (35 ∷ []))) first ∙ ap Some (opened place file payload ends)

-- the last gate is within the content once the payload is written
pub still_within : (place : ℕ) (payload : List ℕ) (old mid : Option (List ℕ)) → IfSome old (λ file. length file ≡ place + 1)
    → mid ≡ option_map (patched (place + 1) payload) old → IfSome mid (λ file. place ≤ length file)
still_within place payload None mid ends first = subst (λ c. IfSome c (λ file. place ≤ length file)) (sym first) tt
still_within place payload (Some file) mid ends first =
    let front = length-take-le (place + 1) file (omega (arith, ends)) in
    let rest = drop (place + 1 + length payload) file in
    let all = length-append (take (place + 1) file ++ payload) rest in
    let within : place ≤ length (patched (place + 1) payload file) = omega (arith, front, all, length-append (take (place + 1) file) payload) in
    subst (λ c. IfSome c (λ file. place ≤ length file)) (sym first) within

-- the clock after both writes
pub rises_twice : (old mid : Option Story) (before between now : ℕ) → is_some mid ≡ is_some old → IfSome old (λ _. between ≡ before + 2)
    → IfSome mid (λ _. now ≡ between + 2) → IfSome old (λ _. now ≡ before + 4)
rises_twice None mid before between now told first second = tt
rises_twice (Some s) None before between now told first second = absurd (cc told)
rises_twice (Some s) (Some t) before between now told first second = omega (arith, first, second)

-- what is known of each file that was kept, as one fact of the call that came last
pub has_opened : {D T E : Type 0} (tells : Ghosts D) (place : ℕ) (payload : List ℕ) (old new : D) (result : Result T E)
    → ((file : List ℕ) → IsKept (tells.content old) (tells.story old) file → length file ≡ place + 1
    → OnOk result (IsKept (tells.content new) (tells.story new) (opened_at place payload file)))
    → OnOk result (tells.content new ≡ option_map (opened_at place payload) (tells.content old))
    → OnOk result (IfSome (tells.story old) (λ _. tells.moment new ≡ tells.moment old + 4))
    → OnOk result (HasOpened tells place payload old new)
has_opened tells place payload old new (Ok done) kept content calls = record { kept = kept; content = content; calls = calls }
has_opened tells place payload old new (Err e) kept content calls = tt

pub has_staged : {D T E : Type 0} (tells : Ghosts D) (place : ℕ) (payload : List ℕ) (old new : D) (result : Result T E)
    → ((file : List ℕ) → IsKept (tells.content old) (tells.story old) file → length file ≡ place + 1
    → OnErr result (IfSome (synced (tells.story new)) (IsStaged file payload)))
    → ((file : List ℕ) → IsKept (tells.content old) (tells.story old) file
    → OnErr result (NowHas (tells.story new) (λ moment. length moment.writes ≤ 1)))
    → OnErr result (HasStaged tells place payload old new)
has_staged tells place payload old new (Ok done) each in_flight = tt
has_staged tells place payload old new (Err e) each in_flight = record { staged = each; in_flight = in_flight }
