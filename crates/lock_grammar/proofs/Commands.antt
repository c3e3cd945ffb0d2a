-- Assignments and commands are read exactly as the grammar has them. Assumes nothing.
use Rattle.std.proofs.Common.{◌≡◌, ℕ, zero, suc, ◌+◌, ◌-◌, ◌<◌, ◌≤◌, Bool, true, false, List, [], ◌∷◌, ◌++◌, length, Some, None, Option, sym, refl, ap, ◌∙◌, arith, length-append}
use Rattle.lock_text.specs.Spelling.{Lexeme, mark}
use Rattle.lock_text.specs.declared.token.Mark.{Mark}
use Rattle.lock_text.specs.declared.token.Mark.TheVariants as Marks
use Rattle.expression.specs.Tree.{Tree, items}
use Rattle.expression.specs.declared.Operator.{Operator}
use Rattle.expression_grammar.specs.Kinds.{Scope, kind, sign}
use Rattle.expression_grammar.specs.declared.kind.Kind.TheVariants.{Operator as Joins, Other}
use Rattle.expression_grammar.proofs.Facts.{kind_of_sign}
use Rattle.step_rule.specs.Programs.{Command, Assignment}
use Rattle.lock_grammar.specs.Names.{Name, assigned_items, command_items, item_count}
use Rattle.lock_grammar.specs.Combinators.{Reader, done, times}
use Rattle.lock_grammar.specs.Reading.{on_comma, assigned_to, assigning, on_target, assignments, guarded, command}
use Rattle.lock_grammar.specs.Grammar as G
use Rattle.lock_grammar.specs.Grammar.{Repeated, Numeral, KnownName, Class, Formula, Target, Assigned, Assignments, OneCommand}
use Rattle.lock_grammar.proofs.Parts.{Relation, Reads, reads_as, Done, stays, reads_done, One, is_token, reads_one, Seq, both, Leads, reads_times}
use Rattle.lock_grammar.proofs.Telling.{IsMark, is_mark, tells_mark, tells_number, tells_known, tells_class, tells_target, Nothing, tells_none_left, First, a_target, no_target, tells_first, After, comma, stop, tells_after}
use Rattle.lock_grammar.proofs.Pieces.{seq, counts, Mapped, mapped, reads_mapped, Counted, Plain, seq_formula}
use Rattle.lock_grammar.proofs.Good.{assigned_few}

-- marks that are no operators

no_names : Scope
no_names w = None

plain_mark : (m : Mark) → kind no_names (mark m) ≡ Other → (o : Operator) → mark m ≡ sign o → ⊥
plain_mark m e o h =
    let q : Joins o ≡ Other = sym (kind_of_sign no_names o) ∙ ap (kind no_names) (sym h) ∙ e in
    let z : ◌≡◌ {A = ℕ} 0 1 = cc in
    omega arith

after_plain : {B : Type 0} {Q : Bool → Relation B} (b : B) (n : ℕ) (us : List Lexeme) → Seq (One After) Q b n us → Plain us
after_plain b n us (both {us = rest} (is_token comma) q) = (mark Marks.Comma, rest, refl, plain_mark Marks.Comma refl)
after_plain b n us (both {us = rest} (is_token stop) q) = (mark Marks.Semicolon, rest, refl, plain_mark Marks.Semicolon refl)

colon_plain : {B : Type 0} {Q : Unit {0} → Relation B} (b : B) (n : ℕ) (us : List Lexeme) → Seq (One (IsMark Marks.Colon)) Q b n us → Plain us
colon_plain b n us (both {us = rest} (is_token is_mark) q) = (mark Marks.Colon, rest, refl, plain_mark Marks.Colon refl)

-- what assignments count

abbrev with_one : List Assignment → ℕ → Tree → List Assignment
with_one before v e = before ++ (record { target = v; source = e } ∷ [])

items_push : (before : List Assignment) (a : Assignment) → assigned_items (before ++ (a ∷ [])) ≡ assigned_items before + length (items a.source)
items_push [] a = omega arith
items_push (b ∷ rest) a = omega (arith, items_push rest a)

length_push : (before : List Assignment) (a : Assignment) → length (before ++ (a ∷ [])) ≡ length before + 1
length_push before a = length-append before (a ∷ [])

assigned_up : {variables : List Name} {before all : List Assignment} {ls : List Lexeme} → Assigned variables before all ls → assigned_items before ≤ assigned_items all
assigned_up {before = before} (G.last {v = v} {e = e} t f) = omega (arith, items_push before (record { target = v; source = e }))
assigned_up {before = before} (G.and_then {v = v} {e = e} t f d) = omega (arith, items_push before (record { target = v; source = e }), assigned_up d)

assigned_longer : {variables : List Name} {before all : List Assignment} {ls : List Lexeme} → Assigned variables before all ls → length before < length all
assigned_longer {before = before} (G.last {v = v} {e = e} t f) = omega (arith, length_push before (record { target = v; source = e }))
assigned_longer {before = before} (G.and_then {v = v} {e = e} t f d) = omega (arith, length_push before (record { target = v; source = e }), assigned_longer d)

-- the reading of assignments

abbrev OnComma : {A : Type 0} → Bool → Relation A → Relation A → Relation A
OnComma true more end = more
OnComma false more end = end

module _ (variables : List Name) where
  -- after the name of v
  abbrev AssignedTo : (List Assignment → Relation (List Assignment)) → List Assignment → ℕ → Relation (List Assignment)
  AssignedTo More before v =
      Seq (One (IsMark Marks.Assign)) (λ _. Seq (Counted variables) (λ e. Seq (One After) (λ b. OnComma b (More (with_one before v e)) (Done (with_one before v e)))))

  reads_on_comma : (more end : Reader (List Assignment)) (M E : Relation (List Assignment)) → Reads more M → Reads end E → (b : Bool) → Reads (on_comma b more end) (OnComma b M E)
  reads_on_comma more end M E p q true = p
  reads_on_comma more end M E p q false = q

  reads_assigned_to : (more : List Assignment → Reader (List Assignment)) (More : List Assignment → Relation (List Assignment)) → ((b : List Assignment) → Reads (more b) (More b)) → (before : List Assignment) (v : ℕ) → Reads (assigned_to variables more before v) (AssignedTo More before v)
  reads_assigned_to more More ok before v =
      seq (reads_one _ _ (tells_mark Marks.Assign)) (λ _. seq_formula variables (λ e b n us q. after_plain b n us q) (λ e. seq (reads_one _ _ tells_after) (reads_on_comma (more (with_one before v e)) (done (with_one before v e)) (More (with_one before v e)) (Done (with_one before v e)) (ok (with_one before v e)) (reads_done (with_one before v e)))))

  -- at most n more assignments
  abbrev AtMost : ℕ → List Assignment → Relation (List Assignment)
  AtMost n before all k ls = Assigned variables before all ls × (length all ≤ length before + n) × (assigned_items all ≡ assigned_items before + k)

  abbrev AssigningParts : ℕ → List Assignment → Relation (List Assignment)
  AssigningParts n before = Seq (One (Target variables before)) (λ v. AssignedTo (AtMost n) before v)

  assigning_to : (n : ℕ) (before all : List Assignment) (k : ℕ) (ls : List Lexeme) → AssigningParts n before all k ls → AtMost (suc n) before all k ls
  assigning_to n before all k ls (both {a = v} (is_token t) (both (is_token is_mark) (both {a = e} (f, c) (both (is_token comma) (d, l, i))))) =
      let p = items_push before (record { target = v; source = e }) in
      let q = length_push before (record { target = v; source = e }) in
      (G.and_then t f d, omega arith, omega arith)
  assigning_to n before all k ls (both {a = v} (is_token t) (both (is_token is_mark) (both {a = e} (f, c) (both (is_token stop) stays)))) =
      let p = items_push before (record { target = v; source = e }) in
      let q = length_push before (record { target = v; source = e }) in
      (G.last t f, omega arith, omega arith)

  -- the parts after the name of v, and what they count
  one_assigned : (More : List Assignment → Relation (List Assignment)) (before : List Assignment) (v : ℕ) (e : Tree) (ts : List Lexeme) → Formula variables e ts → AssignedTo More before v (with_one before v e) (length (items e)) (mark Marks.Assign ∷ (ts ++ (mark Marks.Semicolon ∷ [])))
  one_assigned More before v e ts f = counts (AssignedTo More before v) _ _ (length (items e)) _ (omega arith) (both (is_token is_mark) (both (f, refl) (both (is_token stop) stays)))

  more_assigned : (n : ℕ) (before all : List Assignment) (v : ℕ) (e : Tree) (ts us : List Lexeme) (k : ℕ) → Formula variables e ts → Assigned variables (with_one before v e) all us → length all ≤ length before + 1 + n → assigned_items all ≡ assigned_items before + k → AssignedTo (AtMost n) before v all k (mark Marks.Assign ∷ (ts ++ (mark Marks.Comma ∷ us)))
  more_assigned n before all v e ts us k f d l i =
      let p = items_push before (record { target = v; source = e }) in
      let q = length_push before (record { target = v; source = e }) in
      let up = assigned_up d in
      let m : ℕ = assigned_items all - assigned_items (with_one before v e) in
      let r : AtMost n (with_one before v e) all m us = (d, omega arith, omega arith) in
      counts (AssignedTo (AtMost n) before v) _ (0 + (length (items e) + (0 + m))) k _ (omega arith) (both (is_token is_mark) (both (f, refl) (both (is_token comma) r)))

  assigning_back : (n : ℕ) (before all : List Assignment) (k : ℕ) (ls : List Lexeme) → AtMost (suc n) before all k ls → AssigningParts n before all k ls
  assigning_back n before all k ls (G.last {v = v} {e = e} {ts = ts} t f, l, i) =
      let p = items_push before (record { target = v; source = e }) in
      counts (AssigningParts n before) _ (0 + length (items e)) k _ (omega arith) (both (is_token t) (one_assigned (AtMost n) before v e ts f))
  assigning_back n before all k ls (G.and_then {v = v} {e = e} {ts = ts} {us = us} t f d, l, i) =
      counts (AssigningParts n before) _ (0 + k) k _ (omega arith) (both (is_token t) (more_assigned n before all v e ts us k f d (omega arith) i))

  nothing_to : (before all : List Assignment) (k : ℕ) (ls : List Lexeme) → One Nothing all k ls → AtMost 0 before all k ls
  nothing_to before all k ls (is_token p) = absurd p

  nothing_back : (before all : List Assignment) (k : ℕ) (ls : List Lexeme) → AtMost 0 before all k ls → One Nothing all k ls
  nothing_back before all k ls (d, l, i) = let g = assigned_longer d in absurd (omega arith)

  reads_assigning : (n : ℕ) (before : List Assignment) → Reads (assigning variables n before) (AtMost n before)
  unfolding assigning
  reads_assigning zero before = reads_as (nothing_to before) (nothing_back before) (reads_one _ _ (tells_none_left variables))
  reads_assigning (suc n) before =
      reads_as (assigning_to n before) (assigning_back n before) (seq (reads_one _ _ (tells_target variables before)) (reads_assigned_to (assigning variables n) (AtMost n) (reads_assigning n) before))

  abbrev OnTarget : Option ℕ → Relation (List Assignment)
  OnTarget (Some v) = AssignedTo (AtMost (length variables)) [] v
  OnTarget None = Done []

  reads_on_target : (o : Option ℕ) → Reads (on_target variables o) (OnTarget o)
  reads_on_target (Some v) = reads_assigned_to (assigning variables (length variables)) (AtMost (length variables)) (reads_assigning (length variables)) [] v
  reads_on_target None = reads_done []

  abbrev AssignmentsParts : Relation (List Assignment)
  AssignmentsParts = Seq (One (First variables)) OnTarget

  abbrev pub AssignmentsCounted : Relation (List Assignment)
  AssignmentsCounted all k ls = Assignments variables all ls × (assigned_items all ≡ k)

  assignments_to : (all : List Assignment) (k : ℕ) (ls : List Lexeme) → AssignmentsParts all k ls → AssignmentsCounted all k ls
  assignments_to all k ls (both (is_token no_target) stays) = (G.nothing, omega arith)
  assignments_to all k ls (both (is_token (a_target p)) (both (is_token is_mark) (both (f, c) (both (is_token comma) (d, l, i))))) = (G.something (G.and_then (G.target p tt) f d), omega arith)
  assignments_to all k ls (both (is_token (a_target p)) (both (is_token is_mark) (both (f, c) (both (is_token stop) stays)))) = (G.something (G.last (G.target p tt) f), omega arith)

  assignments_back : (all : List Assignment) (k : ℕ) (ls : List Lexeme) → AssignmentsCounted all k ls → AssignmentsParts all k ls
  assignments_back all k ls (G.nothing, i) = counts AssignmentsParts _ (0 + 0) k _ (omega arith) (both (is_token no_target) stays)
  assignments_back all k ls (G.something (G.last {v = v} {e = e} {ts = ts} (G.target p s) f), i) =
      counts AssignmentsParts _ (0 + length (items e)) k _ (omega arith) (both (is_token (a_target p)) (one_assigned (AtMost (length variables)) [] v e ts f))
  assignments_back all k ls (G.something (G.and_then {v = v} {e = e} {ts = ts} {us = us} (G.target p s) f d), i) =
      let few = assigned_few (G.and_then (G.target p s) f d) in
      counts AssignmentsParts _ (0 + k) k _ (omega arith) (both (is_token (a_target p)) (more_assigned (length variables) [] all v e ts us k f d (omega arith) (omega arith)))

  pub reads_assignments : Reads (assignments variables) AssignmentsCounted
  reads_assignments = reads_as assignments_to assignments_back (seq (reads_one _ _ (tells_first variables)) reads_on_target)

-- commands

count_push : (before : List Command) (c : Command) → item_count (before ++ (c ∷ [])) ≡ item_count before + command_items c
count_push [] c = omega arith
count_push (b ∷ rest) c = omega (arith, count_push rest c)

module _ (processes classes : ℕ) (variables locations : List Name) where
  abbrev made : List Command → ℕ → ℕ → ℕ → Option ℕ → Tree → List Assignment → List Command
  made before p f t c g list = before ++ (record { process = p; from = f; to = t; class = c; guard = g; assignments = list } ∷ [])

  abbrev GuardedParts : (Tree → List Assignment → List Command) → Relation (List Command)
  GuardedParts make =
      Seq (One (IsMark Marks.Colon)) (λ _. Seq (Counted variables) (λ g. Seq (One (IsMark Marks.Colon)) (λ _. Mapped (AssignmentsCounted variables) (make g))))

  reads_guarded : (make : Tree → List Assignment → List Command) → Reads (guarded variables make) (GuardedParts make)
  reads_guarded make =
      seq (reads_one _ _ (tells_mark Marks.Colon)) (λ _. seq_formula variables (λ e b n us q. colon_plain b n us q) (λ g. seq (reads_one _ _ (tells_mark Marks.Colon)) (λ _. reads_mapped (make g) (reads_assignments variables))))

  abbrev CommandParts : List Command → Relation (List Command)
  CommandParts before =
      Seq (One (Numeral 0 processes)) (λ p. Seq (One (KnownName locations)) (λ f. Seq (One (KnownName locations)) (λ t. Seq (One (Class classes)) (λ c. GuardedParts (made before p f t c)))))

  command_to : (before all : List Command) (k : ℕ) (ls : List Lexeme) → CommandParts before all k ls → Leads item_count (OneCommand processes classes variables locations) before all k ls
  command_to before all k ls (both {a = p} (is_token a) (both {a = f} (is_token b) (both {a = t} (is_token c) (both {a = j} (is_token d) (both (is_token is_mark) (both {a = g} (e, i) (both (is_token is_mark) (mapped {a = list} (h, o))))))))) =
      let q = count_push before (record { process = p; from = f; to = t; class = j; guard = g; assignments = list }) in
      (G.command a b c d e h, omega arith)

  command_back : (before all : List Command) (k : ℕ) (ls : List Lexeme) → Leads item_count (OneCommand processes classes variables locations) before all k ls → CommandParts before all k ls
  command_back before all k ls (G.command {process = p} {from = f} {to = t} {class = j} {guard = g} {assignments = list} a b c d e h, i) =
      let q = count_push before (record { process = p; from = f; to = t; class = j; guard = g; assignments = list }) in
      counts (CommandParts before) _ (0 + (0 + (0 + (0 + (0 + (length (items g) + (0 + assigned_items list))))))) k _ (omega arith) (both (is_token a) (both (is_token b) (both (is_token c) (both (is_token d) (both (is_token is_mark) (both (e, refl) (both (is_token is_mark) (mapped (h, refl)))))))))

  command_up : (before all : List Command) (ls : List Lexeme) → OneCommand processes classes variables locations before all ls → item_count before ≤ item_count all
  command_up before all ls (G.command {process = p} {from = f} {to = t} {class = j} {guard = g} {assignments = list} a b c d e h) =
      omega (arith, count_push before (record { process = p; from = f; to = t; class = j; guard = g; assignments = list }))

  reads_command : (before : List Command) → Reads (command processes classes variables locations before) (Leads item_count (OneCommand processes classes variables locations) before)
  reads_command before =
      reads_as (command_to before) (command_back before) (seq (reads_one _ _ (tells_number 0 processes)) (λ p. seq (reads_one _ _ (tells_known locations)) (λ f. seq (reads_one _ _ (tells_known locations)) (λ t. seq (reads_one _ _ (tells_class classes)) (λ c. reads_guarded (made before p f t c))))))

  pub reads_commands : (n : ℕ) → Reads (times n (command processes classes variables locations) []) (Leads item_count (Repeated (OneCommand processes classes variables locations) n) [])
  reads_commands n = reads_times item_count (OneCommand processes classes variables locations) command_up (command processes classes variables locations) reads_command n []
