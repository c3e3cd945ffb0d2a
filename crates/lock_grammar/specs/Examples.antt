-- Texts that are refused, each with its number and place, and one that is read. Assumes nothing.
use Rattle.std.specs.Prelude.{◌≡◌, ℕ, List, [], ◌∷◌, Some, None, codes, Option}
use Rattle.system.specs.declared.Region.TheVariants.{Idle, Try, Crit}
use Rattle.token_stream.specs.Computed.{stream_of}
use Rattle.expression.specs.Tree.{Tree, number, variable, joined}
use Rattle.expression.specs.declared.Operator.TheVariants.{Equal, Plus}
use Rattle.expression_grammar.specs.Kinds.{place}
use Rattle.step_rule.specs.Programs.{Program, Command, Assignment}
use Rattle.lock_grammar.specs.Combinators.{Result, refused, read}
use Rattle.lock_grammar.specs.Reading.{text_read}

-- The number and the place of a refusal, or the program.
pub data Answer : Type 0 where
  refuses : ℕ → ℕ → Answer
  reads : Program → Answer

abbrev pub answered : Result Program → Answer
answered (refused n x) = refuses n (place x)
answered (read p s) = reads p

abbrev pub answer : List ℕ → Answer
answer t = answered (text_read (stream_of t))

-- A text for each cause of a refusal.
pub record RefusalExamples : Type 0 where
  pub spelling : answer (codes "procs $") ≡ refuses 2 6
  pub unwanted : answer (codes "procs vars") ≡ refuses 3 6
  pub missing : answer (codes "procs ") ≡ refuses 3 6
  pub surplus : answer (codes "procs 1 vars 0 locs 1 a idle classes 0 cmds 0 ;") ≡ refuses 3 46
  pub range : answer (codes "procs 9") ≡ refuses 4 6
  pub initial : answer (codes "procs 1 vars 1 m 1 2") ≡ refuses 4 19
  pub class : answer (codes "procs 1 vars 0 locs 1 a idle classes 0 cmds 1 0 a a 0") ≡ refuses 4 52
  pub declared : answer (codes "procs 1 vars 1 a 1 0 locs 1 a idle") ≡ refuses 5 28
  pub unknown : answer (codes "procs 1 vars 1 a 1 0 locs 1 b idle classes 0 cmds 1 0 a") ≡ refuses 6 54
  pub twice : answer (codes "procs 1 vars 1 a 1 0 locs 1 b idle classes 0 cmds 1 0 b b none : 1 : a = 1, a = 0;") ≡ refuses 7 76
  pub levels : answer (codes "procs 1 vars 0 locs 1 b idle classes 0 cmds 1 0 b b none : (((((((((1)))))))))") ≡ refuses 8 67
  pub operands : answer (codes "procs 1 vars 0 locs 1 b idle classes 0 cmds 1 0 b b none : 1+1+1+1+1+1+1+1+1+1+1+1+1+1+1+1+1+1+1+1+1+1+1+1+1+1+1+1+1+1+1+1+1") ≡ refuses 8 123
  pub states : answer (codes "procs 1 vars 2 a 255 0 b 255 0 locs 2 c idle d try") ≡ refuses 9 47

abbrev pub step : ℕ → ℕ → Option ℕ → Tree → List Assignment → Command
step from to class guard assignments = record { process = 0; from = from; to = to; class = class; guard = guard; assignments = assignments }

-- Two locks of one process, read: one without variables, and one that guards and assigns.
pub record ReadExamples : Type 0 where
  pub plain :
      answer (codes "procs 1 vars 0 locs 3 n idle t try c crit classes 1 cmds 3 0 n t none : 1 : ; 0 t c 0 : 1 : ; 0 c n 0 : 1 : ;") ≡ reads (record {
        processes = 1;
        maxima = [];
        initials = [];
        locations = Idle ∷ Try ∷ Crit ∷ [];
        classes = 1;
        commands = step 0 1 None (number 1) [] ∷ step 1 2 (Some 0) (number 1) [] ∷ step 2 0 (Some 0) (number 1) [] ∷ [];
      })
  pub assigning :
      answer (codes "procs 1 vars 2 m 1 0 k 255 7 locs 2 n idle c crit classes 0 cmds 1 0 n c none : m == 0 : m = 1, k = k + m;") ≡ reads (record {
        processes = 1;
        maxima = 1 ∷ 255 ∷ [];
        initials = 0 ∷ 7 ∷ [];
        locations = Idle ∷ Crit ∷ [];
        classes = 0;
        commands = step 0 1 None (joined Equal (variable 0) (number 0)) (record { target = 0; source = number 1 } ∷ record { target = 1; source = joined Plus (variable 1) (variable 0) } ∷ []) ∷ [];
      })
