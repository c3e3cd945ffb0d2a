-- What is sound has one proof at most. Assumes nothing.
use Rattle.std.specs.Prelude.{ℕ, List}
use Rattle.std.proofs.Math.Bool.{Bool-set}
use mathlib.Core.HLevel.{×₃_prop, →_prop}
use Rattle.std.proofs.Math.Logic.{∥∥₁_elim}
use Rattle.std.proofs.Math.Bridge.{le_prop}
use mathlib.Core.HLevel.{hedberg}
use Rattle.std.proofs.Math.Decide.{ℕ_discrete}
use Rattle.expression.specs.declared.Item.{Item}
use Rattle.step_rule.proofs.Props.{all_prop, well_formed_prop}
use Rattle.declarations.specs.Frames.{frame}
use Rattle.lock_program.specs.declared.record.LockProgram.{LockProgram}
use Rattle.lock_program.specs.declared.stored.Span.{Span}
use Rattle.lock_program.specs.Storage.{GoodSpan, Sound}

span_prop : (n held : ℕ) (code : List Item) (s : Span) → IsProp (GoodSpan n held code s)
span_prop n held code s = ×₃_prop le_prop le_prop (Bool-set _ _)

pub sound : (p : LockProgram) → Sound (frame p.declarations) p.classes p.commands p.table p.assignments p.assigned p.held p.code
sound p = ∥∥₁_elim p.sound prop (λ s. s)
  where
    prop : IsProp (Sound (frame p.declarations) p.classes p.commands p.table p.assignments p.assigned p.held p.code)
    prop a b = λ i. record {
      formed = well_formed_prop _ a.formed b.formed i;
      guards = all_prop _ (λ c. ×₃_prop (span_prop _ _ _ c.guard) le_prop le_prop) _ a.guards b.guards i;
      sources = all_prop _ (λ s. span_prop _ _ _ s.source) _ a.sources b.sources i;
      ending = →_prop (hedberg ℕ_discrete _ _) a.ending b.ending i;
    }
