-- What a tool tells of a file that was not read: it is refused, or memory was wanted.
use Rattle.std.proofs.Common.{◌≡◌, Option, Some, None, IsSome, refl, sym, subst}
use Rattle.std.specs.Prelude.{IfNone}
use Rattle.mdf_block.specs.Refusal.{Fails, Read, Refusal}
use Rattle.mdf_content.specs.Fault.{read_refusal}
use Rattle.mdf_content.specs.declared.fault.ReadFault.{ReadFault}
use Rattle.mdf_tool.specs.Tool.{fault_or_memory}
use Rattle.mdf_tool.specs.declared.fault.ToolFault.{ToolFault}
use Rattle.mdf_tool.specs.declared.fault.ToolFault.TheVariants as tool

module _ {A : Type 0} (read : Read A) (Known : Type 0) (Ends : ToolFault → Type 0)
    (refused : (fault : ReadFault) → IsSome (read_refusal fault) → Fails (read_refusal fault) read → Ends (tool.Read fault)) (wanted : Known → Ends tool.Memory) where
  pub unread : (fault : ReadFault) (refusal : Option Refusal) → read_refusal fault ≡ refusal → Fails refusal read → IfNone refusal Known → Ends (fault_or_memory fault refusal)
  unread fault None is fails known = wanted known
  unread fault (Some refusal) is fails known =
      refused fault (subst IsSome (sym is) refl) (subst (λ (one : Option Refusal). Fails one read) (sym is) fails)
