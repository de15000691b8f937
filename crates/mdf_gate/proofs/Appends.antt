-- What an append does to a file at rest, on a disk that may tell its content and its story.
use Rattle.std.proofs.Common.{◌≡◌, inl, ⊎_elim, ℕ, ◌+◌, ◌%◌, ◌^◌, ◌≤◌, ◌<◌, List, [], ◌∷◌, ◌++◌, length, take, Option, Some, None, is_some, Result, Ok, Err, refl, sym, ◌∙◌, ap, subst, arith}
use Rattle.std.specs.Prelude.{IfSome, OnOk}
use Rattle.std.specs.Option.{option_map}
use Rattle.std.proofs.lemmas.List.{take_at}
use Rattle.std.proofs.lemmas.Option.{same_Some}
use mathlib.Core.List.{IsPrefix}
use Rattle.mdf_disk.specs.Story.{Moment, Story, MayLeave, Agrees, LeftInOne, LeftSince, settled}
use Rattle.mdf_disk.specs.Crash.{Adds, HoldsSince}
use Rattle.mdf_disk.proofs.Crash.{adds_more, now_more, settled_leaves}
use Rattle.mdf_seal.specs.Seal.{IsKept, synced}
use Rattle.mdf_format.specs.Form.{form_of}
use Rattle.mdf_gate.specs.Unit.{AreUnits}
use Rattle.mdf_gate.specs.Written.{opened_at, payload_of, room_of}
use Rattle.mdf_gate.specs.Gated.{Rests, RestsOn}
use Rattle.mdf_gate.specs.Images.{head_of, Opens, OpensEither, IsStage, IsStaged}
use Rattle.mdf_format.specs.declared.form.Form.{Form}
use Rattle.mdf_gate.proofs.Resting.{rests_after, rests_opens, stage_opens, still_form, length-head}

-- a file that is kept is at rest where its bytes are
pub kept_rests : (content : Option (List ℕ)) (story : Option Story) (first : ℕ) (blocks : List (List ℕ)) (place : ℕ) (file : List ℕ) → IsKept content story file
    → Rests first blocks place file → RestsOn content story first blocks place
kept_rests content story first blocks place file is rests = record {
  rests = told content is.whole;
  kept = now_more story (λ moment. moment ≡ settled file) (λ moment. moment ≡ settled moment.content) (λ moment all. all ∙ ap settled (sym (ap (λ (m : Moment). m.content) all))) is.kept;
}
  where
    told : (content : Option (List ℕ)) → IfSome content (λ bytes. bytes ≡ file) → IfSome content (Rests first blocks place)
    told None is = tt
    told (Some bytes) is = subst (Rests first blocks place) (sym is) rests

-- of a file at rest the content is kept, and it is at rest
pub rests_kept : (story : Option Story) (file : List ℕ) (clock first : ℕ) (blocks : List (List ℕ)) (place : ℕ) → Agrees story (Some file) clock
    → RestsOn (Some file) story first blocks place → IsKept (Some file) story file
rests_kept None file clock first blocks place agrees rests = record { whole = refl; kept = tt }
rests_kept (Some s) file clock first blocks place agrees rests =
    let is : s.now.content ≡ file = same_Some _ _ (sym agrees.content_is) in
    record { whole = refl; kept = rests.kept ∙ ap settled is }

-- of a file at rest some content is kept
pub kept_of : (content : Option (List ℕ)) (story : Option Story) (clock first : ℕ) (blocks : List (List ℕ)) (place : ℕ) → Agrees story content clock
    → RestsOn content story first blocks place → (kept : List ℕ) × IsKept content story kept
kept_of (Some file) story clock first blocks place agrees rests = (file, rests_kept story file clock first blocks place agrees rests)
kept_of None None clock first blocks place agrees rests = ([], record { whole = tt; kept = tt })
kept_of None (Some s) clock first blocks place agrees rests = absurd (cc agrees.content_is)

-- what the disk keeps where an append failed
pub staged_after : (old new : Option Story) (content : Option (List ℕ)) (clock first : ℕ) (blocks : List (List ℕ)) (place : ℕ) (payload : List ℕ)
    → Agrees old content clock → RestsOn content old first blocks place
    → ((kept : List ℕ) → IsKept content old kept → length kept ≡ place + 1 → IfSome (synced new) (IsStaged kept payload))
    → IfSome content (λ file. IfSome (synced new) (IsStaged file payload))
staged_after old new None clock first blocks place payload agrees rests staged = tt
staged_after old new (Some file) clock first blocks place payload agrees rests staged =
    staged file (rests_kept old file clock first blocks place agrees rests) rests.rests.ends

-- a file whose content is told is of this form
abbrev IsOfForm : Option (List ℕ) → Form → Type 0
IsOfForm content form = IfSome content (λ file. form_of file ≡ form)

-- the file is at rest with the unit of the block too
pub rests_on_after : (E : Type 0) (result : Result Unit E) (old new : Option Story) (content after : Option (List ℕ)) (clock first : ℕ) (blocks : List (List ℕ)) (place : ℕ) (form : Form) (offset : ℕ) (body : List ℕ)
    → Agrees old content clock → RestsOn content old first blocks place → IsOfForm content form → place % 8 ≡ 0 → place + length body + 88 < 2 ^ 64
    → is_some after ≡ is_some content → is_some new ≡ is_some old
    → ((kept : List ℕ) → IsKept content old kept → length kept ≡ place + 1 → OnOk result (IsKept after new (take place kept ++ 35 ∷ payload_of form place offset body)))
    → OnOk result (RestsOn after new first (blocks ++ body ∷ []) (place + room_of form (length body)))
rests_on_after E (Err e) old new content after clock first blocks place form offset body agrees rests is on_eight small told_content told ok = tt
rests_on_after E (Ok done) old new (Some file) after clock first blocks place form offset body agrees rests is on_eight small told_content told ok =
    let kept = ok file (rests_kept old file clock first blocks place agrees rests) rests.rests.ends in
    kept_rests after new first (blocks ++ body ∷ []) (place + room_of form (length body)) _ kept (rests_after first blocks place file rests.rests form is offset body on_eight small)
rests_on_after E (Ok done) (Some s) new None after clock first blocks place form offset body agrees rests is on_eight small told_content told ok = absurd (cc agrees.content_is)
rests_on_after E (Ok done) None None None None clock first blocks place form offset body agrees rests is on_eight small told_content told ok = record { rests = tt; kept = tt }
rests_on_after E (Ok done) None (Some s) None after clock first blocks place form offset body agrees rests is on_eight small told_content told ok = absurd (cc told)
rests_on_after E (Ok done) None None None (Some file) clock first blocks place form offset body agrees rests is on_eight small told_content told ok = absurd (cc told_content)

-- and of the same form
pub form_on_after : (E : Type 0) (result : Result Unit E) (story : Option Story) (content after : Option (List ℕ)) (first : ℕ) (blocks : List (List ℕ)) (place : ℕ) (form : Form) (offset : ℕ) (body : List ℕ)
    → RestsOn content story first blocks place → IsOfForm content form
    → OnOk result (after ≡ option_map (opened_at place (payload_of form place offset body)) content) → OnOk result (IsOfForm after form)
form_on_after E (Err e) story content after first blocks place form offset body rests is written = tt
form_on_after E (Ok done) story None after first blocks place form offset body rests is written =
    subst (λ (c : Option (List ℕ)). IsOfForm c form) (sym written) tt
form_on_after E (Ok done) story (Some file) after first blocks place form offset body rests is written =
    subst (λ (c : Option (List ℕ)). IsOfForm c form) (sym written) (still_form first blocks place file rests.rests (35 ∷ payload_of form place offset body) ∙ is)

-- no file joins but those with the blocks, or with the block too
pub adds_after : (old new : Option Story) (content : Option (List ℕ)) (clock first : ℕ) (blocks : List (List ℕ)) (place : ℕ) (form : Form) (offset : ℕ) (body : List ℕ)
    → Agrees old content clock → RestsOn content old first blocks place → IsOfForm content form → place % 8 ≡ 0 → place + length body + 88 < 2 ^ 64 → is_some new ≡ is_some old
    → ((kept : List ℕ) → IsKept content old kept → length kept ≡ place + 1 → Adds old new (IsStage place kept (payload_of form place offset body)))
    → Adds old new (OpensEither (head_of old first) blocks body (place + room_of form (length body)))
adds_after None None content clock first blocks place form offset body agrees rests is on_eight small told adds = λ t file left. inl left
adds_after None (Some s) content clock first blocks place form offset body agrees rests is on_eight small told adds = absurd (cc told)
adds_after (Some s) new None clock first blocks place form offset body agrees rests is on_eight small told adds = absurd (cc agrees.content_is)
adds_after (Some s) new (Some file) clock first blocks place form offset body agrees rests is on_eight small told adds =
    let same : file ≡ s.now.content = same_Some _ _ agrees.content_is in
    subst (λ (bytes : List ℕ). Adds (Some s) new (OpensEither (take first bytes) blocks body (place + room_of form (length body)))) same
    (adds_more (Some s) new (IsStage place file (payload_of form place offset body)) (OpensEither (take first file) blocks body (place + room_of form (length body)))
    (stage_opens first blocks place file rests.rests form is offset body on_eight small)
    (adds file (rests_kept (Some s) file clock first blocks place agrees rests) rests.rests.ends))

-- no moment is as late as the present one
pub none_later : (past : List Moment) (t : ℕ) (file : List ℕ) → length past ≤ t → LeftInOne past t file → ⊥
none_later [] t file late left = left
none_later (moment ∷ past) t file late left = ⊎_elim (λ now. absurd (omega (arith, late, now.0))) (none_later past t file (omega (arith, late))) left

-- Of a file at rest, all of it kept, a crash from now on leaves its head and its blocks.
pub rests_leaves : (content : Option (List ℕ)) (story : Option Story) (clock first : ℕ) (blocks : List (List ℕ)) (place : ℕ) → Agrees story content clock
    → RestsOn content story first blocks place → HoldsSince story clock (Opens (head_of story first) blocks place)
rests_leaves content None clock first blocks place agrees rests file left = absurd left
rests_leaves None (Some s) clock first blocks place agrees rests file left = absurd (cc agrees.content_is)
rests_leaves (Some bytes) (Some s) clock first blocks place agrees rests file left =
    let is : s.now.content ≡ bytes = same_Some _ _ (sym agrees.content_is) in
    let now : MayLeave s.now file = ⊎_elim (λ here. here.1) (λ older. absurd (none_later s.past clock file (omega (arith, agrees.moment_is)) older)) left in
    let same : file ≡ s.now.content = settled_leaves s.now.content file (subst (λ (m : Moment). MayLeave m file) rests.kept now) in
    subst (Opens (take first s.now.content) blocks place) (sym same)
    (subst (λ (whole : List ℕ). Opens (take first whole) blocks place whole) (sym is) (rests_opens first blocks place bytes rests.rests))

-- the head of a file at rest with no block goes up to its place
pub rests_bare : (content : Option (List ℕ)) (story : Option Story) (clock first place : ℕ) → Agrees story content clock
    → RestsOn content story first [] place → IfSome story (λ _. place ≤ length (head_of story first))
unfolding AreUnits
rests_bare content None clock first place agrees rests = tt
rests_bare None (Some s) clock first place agrees rests = absurd (cc agrees.content_is)
rests_bare (Some bytes) (Some s) clock first place agrees rests =
    let is : bytes ≡ s.now.content = same_Some _ _ agrees.content_is in
    let long : length (take first s.now.content) ≡ first =
    subst (λ (whole : List ℕ). length (take first whole) ≡ first) is (length-head first [] place bytes rests.rests) in
    omega (arith, long, rests.rests.units)

-- the head stays, also where the calls failed
pub head_stays : (old new : Option Story) (content after : Option (List ℕ)) (clock later first : ℕ) (blocks : List (List ℕ)) (place last : ℕ) (body : List ℕ)
    → Agrees old content clock → Agrees new after later → clock ≤ later → RestsOn content old first blocks place → is_some new ≡ is_some old
    → Adds old new (OpensEither (head_of old first) blocks body last) → head_of new first ≡ head_of old first
head_stays None None content after clock later first blocks place last body agrees then up rests told adds = refl
head_stays None (Some n) content after clock later first blocks place last body agrees then up rests told adds = absurd (cc told)
head_stays (Some s) None content after clock later first blocks place last body agrees then up rests told adds = absurd (cc told)
head_stays (Some s) (Some n) None after clock later first blocks place last body agrees then up rests told adds = absurd (cc agrees.content_is)
head_stays (Some s) (Some n) (Some bytes) after clock later first blocks place last body agrees then up rests told adds =
    let is : bytes ≡ s.now.content = same_Some _ _ agrees.content_is in
    let left : LeftSince (Some n) clock n.now.content = inl (omega (arith, up, then.moment_is), then.possible) in
    let prefix : IsPrefix (take first s.now.content) n.now.content =
    ⊎_elim (λ before. (rests_leaves (Some bytes) (Some s) clock first blocks place agrees rests n.now.content before).0) (λ joined. joined.0) (adds clock n.now.content left) in
    let long : length (take first s.now.content) ≡ first =
    subst (λ (whole : List ℕ). length (take first whole) ≡ first) is (length-head first blocks place bytes rests.rests) in
    ap (take first) (sym prefix.1) ∙ take_at (take first s.now.content) prefix.0 first long
