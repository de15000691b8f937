-- A recording that is read has a recording's identification.
use Rattle.std.proofs.Common.{◌≡◌, List, ℕ, Ok}
use Rattle.mdf_format.specs.Form.{form_named}
use Rattle.mdf_block.specs.Refusal.{◌>>=◌}
use Rattle.mdf_block.proofs.Refusals.{bind_ok}
use Rattle.mdf_head.specs.declared.identity.Ident.{Ident}
use Rattle.mdf_model.specs.Tree.{tree}
use Rattle.mdf_session.specs.Session.{SessionParts, recording, first_kept, session}

pub ident_first : (f : List ℕ) (s : SessionParts) → session f ≡ Ok s → (id : Ident) × (recording f ≡ Ok id)
unfolding session
ident_first f s is =
    let first = bind_ok (recording f) (λ id. tree f >>= λ all. first_kept (form_named id.custom_flags) f all.rows >>= λ found. Ok (record { tree = all; kept = found })) s is in
    (first.0, first.1)
