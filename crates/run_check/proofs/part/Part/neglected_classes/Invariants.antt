use Rattle.std.proofs.Common.{◌≡◌, ℕ, ◌<◌, ◌&&◌}
use Rattle.std.specs.List.{list_all}
use Rattle.system.specs.Masks.{bit}
use Rattle.run_rules.specs.Judging.{visits, owed, neglected}
use Rattle.run_check.proofs.part.Part.neglected_classes.Given as goal

abbrev pub invariant-loop-state : goal.invariant-loop-state
invariant-loop-state g l =
    let m = g.S.System.meaning l.self.system.now in
    let v = l.state-iterator in
    (j : ℕ) → j < 16 →
    (bit l.owed.bits j && list_all (λ e. owed m j e.0 e.1) (visits (g.S.System.meaning v.system.now).steps v.state v.steps.now)) ≡ neglected m j l.self.from l.self.steps.now
