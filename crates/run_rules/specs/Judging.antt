-- What is tried after reading, in the order of the causes, as a function that computes. Assumes nothing.
use Rattle.std.specs.Prelude.{ℕ, zero, suc, ◌+◌, min, Bool, true, false, cond, not, ◌&&◌, List, [], ◌∷◌, length, Some, None, Ok, Err, Option, Result, ◌==◌}
use Rattle.system.specs.declared.Region.{Region}
use Rattle.system.specs.declared.Region.TheVariants.{Idle, Try, Crit, Exit}
use Rattle.system.specs.Transitions.{Transitions}
use Rattle.system.specs.Justice.{FairSystem}
use Rattle.system.specs.Tests.{is_class, class_enabled_lem, is_clash_lem}
use Rattle.run_rules.specs.declared.Kind.{Kind}
use Rattle.run_rules.specs.declared.Kind.TheVariants.{Clash, Lockout}
use Rattle.run_refusal.specs.declared.RunRefusal.{RunRefusal}
use Rattle.run_refusal.specs.declared.RunRefusal.TheVariants.{StepDisabled, NoClash, LoopOpen, NotWaiting, ClassNeglected}
use Rattle.run_rules.specs.Reading.{and_then, Fields, read_run_lem}

abbrev pub or_else : {X : Type 0} → Option ℕ → (ℕ → X) → X → X
or_else (Some t) f x = f t
or_else None f x = x

-- Where the step of the byte b leads from s.
abbrev pub after : Transitions → ℕ → ℕ → Option ℕ
after T s b = cond (b == 255) (Some s) (T.next s b)

-- The states that the steps from s are taken in, each with its step's byte. The first step that is not possible is
-- the last.
abbrev pub visits : Transitions → ℕ → List ℕ → List (ℕ × ℕ)
visits T s [] = []
visits T s (b ∷ bs) = (s, b) ∷ or_else (after T s b) (λ t. visits T t bs) []

-- The last state of the steps from s, the first of which has index i.
abbrev pub walked : Transitions → ℕ → ℕ → List ℕ → Result ℕ RunRefusal
walked T s i [] = Ok s
walked T s i (b ∷ bs) = or_else (after T s b) (λ t. walked T t (i + 1) bs) (Err (StepDisabled i b))

abbrev pub is_try : Region → Bool
is_try Idle = false
is_try Try = true
is_try Crit = false
is_try Exit = false

-- The lower of the state held, if any, and s.
abbrev pub lower : Option ℕ → ℕ → Option ℕ
lower None s = Some s
lower (Some t) s = Some (min t s)

-- The lowest of the state held and the states before the steps from s where p does not wait.
abbrev pub least_idle : Transitions → ℕ → Option ℕ → ℕ → List ℕ → Option ℕ
least_idle T p held s [] = held
least_idle T p held s (b ∷ bs) =
    or_else (after T s b)
    (λ t. least_idle T p (cond (is_try (T.region s p)) held (lower held s)) t bs)
    (cond (is_try (T.region s p)) held (lower held s))

-- The class j is enabled at s, and not that of the byte's step.
abbrev pub owed : FairSystem → ℕ → ℕ → ℕ → Bool
owed S j s b = class_enabled_lem S s j && not (is_class (S.class b) j)

-- The class j is enabled at each state before the steps from s, and taken by none of them.
abbrev pub neglected : FairSystem → ℕ → ℕ → List ℕ → Bool
neglected S j s [] = true
neglected S j s (b ∷ bs) = owed S j s b && or_else (after S.steps s b) (λ t. neglected S j t bs) true

-- The least of the n numbers from i on that passes the test.
abbrev pub least : (ℕ → Bool) → ℕ → ℕ → Option ℕ
least f i zero = None
least f i (suc n) = cond (f i) (Some i) (least f (i + 1) n)

abbrev pub judged_loop : FairSystem → ℕ → ℕ → List ℕ → Result (Unit {0}) RunRefusal
judged_loop S p s cycle =
    or_else (least_idle S.steps p None s cycle) (λ u. Err (NotWaiting p u))
    (or_else (least (λ j. neglected S j s cycle) 0 S.classes) (λ j. Err (ClassNeglected j)) (Ok tt))

abbrev pub judged_clash : FairSystem → List ℕ → Result (Unit {0}) RunRefusal
judged_clash S stem =
    and_then (walked S.steps S.steps.start 0 stem) (λ s.
    cond (is_clash_lem S.steps s) (Ok tt) (Err (NoClash s)))

abbrev pub judged_lockout : FairSystem → ℕ → List ℕ → List ℕ → Result (Unit {0}) RunRefusal
judged_lockout S p stem cycle =
    and_then (walked S.steps S.steps.start 0 stem) (λ s.
    and_then (walked S.steps s (length stem) cycle) (λ t.
    cond (t == s) (judged_loop S p s cycle) (Err (LoopOpen t))))

abbrev pub judged_by : FairSystem → Kind → ℕ → List ℕ → List ℕ → Result (Unit {0}) RunRefusal
judged_by S Clash p stem cycle = judged_clash S stem
judged_by S Lockout p stem cycle = judged_lockout S p stem cycle

abbrev pub judged : FairSystem → Fields → Result (Unit {0}) RunRefusal
judged S f = judged_by S f.kind f.process f.stem f.cycle

-- The answer to bytes: acceptance, or a refusal.
abbrev pub run_answer : FairSystem → List ℕ → Result (Unit {0}) RunRefusal
run_answer S bytes = and_then (read_run_lem S.steps bytes) (judged S)
