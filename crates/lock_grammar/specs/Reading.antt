-- The reading of a lock text from its stream of tokens, as a function. Assumes nothing.
use Rattle.std.specs.Prelude.{ℕ, zero, suc, ◌+◌, ◌-◌, Bool, true, false, List, [], ◌∷◌, ◌++◌, length, replicate, Some, None, Option, nat_le}
use Rattle.lock_text.specs.declared.token.Word.TheVariants as Words
use Rattle.lock_text.specs.declared.token.Mark.TheVariants as Marks
use Rattle.token_stream.specs.Streams.{Stream}
use Rattle.expression.specs.Tree.{Tree, max_levels}
use Rattle.expression_grammar.specs.Reading.{State, Outcome, expression, levels}
use Rattle.expression_grammar.specs.Reading as Expressions
use Rattle.step_rule.specs.Programs.{Program, Command, Assignment, product, max_processes, max_variables, max_locations, max_classes, max_commands, max_states, max_maximum}
use Rattle.step_rule.specs.Codes.{value_radices}
use Rattle.lock_grammar.specs.Names.{Name, index_of, Variables, no_variables, with_variable, Locations, no_locations, with_location, program}
use Rattle.lock_grammar.specs.Combinators.{Position, Result, refused, read, Reader, done, next, one, times, at_end}
use Rattle.lock_grammar.specs.Tests.{this_word, this_mark, number_within, undeclared, declared, region_word, class_or_none, unassigned, none_left, target_or_end, comma_or_end}

-- A variable after those before it.
abbrev pub variable : Variables → Reader Variables
variable before =
    next (one (undeclared before.names)) (λ w. next (one (number_within 0 (max_maximum + 1))) (λ m. next (one (number_within 0 (m + 1))) (λ i. done (with_variable before w m i))))

-- A location after those before it; `few` says whether the states are few enough to stop here.
abbrev pub location : List Name → Bool → Locations → Reader Locations
location variables few before = next (one (undeclared (variables ++ before.names))) (λ w. next (one (region_word few)) (λ r. done (with_location before w r)))

-- Whether so many processes at so many locations, and these maxima, make few enough states.
abbrev pub few_states : ℕ → List ℕ → ℕ → Bool
few_states processes maxima locations = nat_le (product (value_radices maxima ++ replicate processes locations)) max_states

-- So many locations. How many states there are is judged at the last one.
abbrev pub locations : ℕ → Variables → ℕ → Reader Locations
locations processes variables count =
    next (times (count - 1) (location variables.names true) no_locations) (location variables.names (few_states processes variables.maxima count))

abbrev pub from_outcome : Outcome → Result Tree
from_outcome (Expressions.refused n x) = refused n x
from_outcome (Expressions.read e s) = read e (record { rest = s.rest; items = s.items })

abbrev pub fresh : Position → State
fresh s = record { rest = s.rest; operands = 0; items = s.items }

-- An expression over these variables, with its own count of operands.
unfoldable pub formula : List Name → Reader Tree
formula variables s = from_outcome (expression (index_of variables) (levels (index_of variables) max_levels) (fresh s))

abbrev pub on_comma : Bool → Reader (List Assignment) → Reader (List Assignment) → Reader (List Assignment)
on_comma true more stop = more
on_comma false more stop = stop

-- After the name of the variable v: its `=`, its right side, then a `,` and what goes on after it, or a `;`.
abbrev pub assigned_to : List Name → (List Assignment → Reader (List Assignment)) → List Assignment → ℕ → Reader (List Assignment)
assigned_to variables more before v =
    next (one (this_mark Marks.Assign)) (λ _. next (formula variables) (λ e. next (one comma_or_end) (λ b. on_comma b (more (before ++ (record { target = v; source = e } ∷ []))) (done (before ++ (record { target = v; source = e } ∷ []))))))

-- After a `,`: the assignments that follow those before. At most so many variables are not assigned yet.
unfoldable pub assigning : List Name → ℕ → List Assignment → Reader (List Assignment)
assigning variables zero before = one (none_left variables)
assigning variables (suc n) before = next (one (unassigned variables before)) (assigned_to variables (assigning variables n) before)

abbrev pub on_target : List Name → Option ℕ → Reader (List Assignment)
on_target variables (Some v) = assigned_to variables (assigning variables (length variables)) [] v
on_target variables None = done []

-- The assignments of a command, and the `;` after them.
abbrev pub assignments : List Name → Reader (List Assignment)
assignments variables = next (one (target_or_end variables)) (on_target variables)

-- A guard between its `:` marks, then the assignments.
abbrev pub guarded : List Name → (Tree → List Assignment → List Command) → Reader (List Command)
guarded variables made =
    next (one (this_mark Marks.Colon)) (λ _. next (formula variables) (λ g. next (one (this_mark Marks.Colon)) (λ _. next (assignments variables) (λ list. done (made g list)))))

-- A command after those before it.
abbrev pub command : ℕ → ℕ → List Name → List Name → List Command → Reader (List Command)
command processes classes variables locations before =
    next (one (number_within 0 processes)) (λ p. next (one (declared locations)) (λ f. next (one (declared locations)) (λ t. next (one (class_or_none classes)) (λ c. guarded variables (λ g list. before ++ (record { process = p; from = f; to = t; class = c; guard = g; assignments = list } ∷ []))))))

-- The text from `classes` on.
abbrev pub commands : ℕ → Variables → Locations → Reader Program
commands processes variables locations =
    next (one (this_word Words.Classes)) (λ _. next (one (number_within 0 (max_classes + 1))) (λ j. next (one (this_word Words.Cmds)) (λ _. next (one (number_within 0 (max_commands + 1))) (λ k. next (times k (command processes j variables.names locations.names) []) (λ cs. done (program processes variables locations j cs))))))

-- The text from `locs` on.
abbrev pub located : ℕ → Variables → Reader Program
located processes variables =
    next (one (this_word Words.Locs)) (λ _. next (one (number_within 1 (max_locations + 1))) (λ l. next (locations processes variables l) (commands processes variables)))

-- The text from `vars` on.
abbrev pub declarations : ℕ → Reader Program
declarations processes =
    next (one (this_word Words.Vars)) (λ _. next (one (number_within 0 (max_variables + 1))) (λ v. next (times v variable no_variables) (located processes)))

-- A whole text but for its end.
abbrev pub lock_text : Reader Program
lock_text = next (one (this_word Words.Procs)) (λ _. next (one (number_within 1 (max_processes + 1))) declarations)

-- A whole text.
abbrev pub text_read : Stream → Result Program
text_read x = next lock_text at_end (record { rest = x; items = 0 })
