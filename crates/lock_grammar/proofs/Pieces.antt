-- Each part of a lock text is read exactly as the grammar has it. Assumes nothing.
use Rattle.std.proofs.Common.{◌≡◌, ℕ, ◌+◌, ◌≤◌, Bool, true, List, [], ◌∷◌, ◌++◌, length, sym, refl, ap, ◌∙◌, subst, append-nil, arith}
use Rattle.lock_text.specs.Spelling.{Lexeme}
use Rattle.token_stream.specs.Streams.{Stream}
use Rattle.expression.specs.Tree.{Tree, items, operands, max_operands, max_levels, max_items}
use Rattle.expression.specs.declared.Operator.{Operator}
use Rattle.expression_grammar.specs.Kinds.{sign}
use Rattle.expression_grammar.specs.Reading as E
use Rattle.expression_grammar.specs.Laws.{Begins, a_token, NoOperator}
use Rattle.expression_grammar.proofs.Facts.{begins_one}
use Rattle.expression_grammar.proofs.Sound.{sound_reading}
use Rattle.expression_grammar.proofs.Complete.{complete_reading}
use Rattle.step_rule.specs.Programs.{max_maximum}
use Rattle.lock_grammar.specs.Names.{Name, index_of, Variables, with_variable, Locations, with_location}
use Rattle.lock_grammar.specs.Combinators.{Position, read, Reader, done, next}
use Rattle.lock_grammar.specs.Reading.{variable, location, from_outcome, fresh, formula}
use Rattle.lock_grammar.specs.Grammar as G
use Rattle.lock_grammar.specs.Grammar.{Numeral, NewName, Variable, Location, Formula}
use Rattle.lock_grammar.proofs.Parts.{Relation, LocalTo, Local, Sound, Reads, clash, reads_as, Done, stays, reads_done, One, is_token, reads_one, Seq, both, reads_next, reads_next_if, Leads}
use Rattle.lock_grammar.proofs.Telling.{tells_number, tells_new, RegionIf, region_if, tells_region}
use Rattle.expression_grammar.proofs.Local as L
use Rattle.expression_grammar.proofs.Local.{read_local}

pub seq : {A B : Type 0} {f : Reader A} {k : A → Reader B} {P : Relation A} {Q : A → Relation B} → Reads f P → ((a : A) → Reads (k a) (Q a)) → Reads (next f k) (Seq P Q)
seq {f = f} {k = k} {P = P} {Q = Q} p q = reads_next f k P Q p q

-- a relation holds for the count too, where the count is another number for the same
pub counts : {A : Type 0} (P : Relation A) (a : A) (m n : ℕ) (ls : List Lexeme) → m ≡ n → P a m ls → P a n ls
counts P a m n ls e p = subst (λ (k : ℕ). P a k ls) e p

-- a reader whose result is turned into another

pub data Mapped {A B : Type 0} (P : Relation A) (g : A → B) : B → ℕ → List Lexeme → Type 0 where
  mapped : {a : A} {n : ℕ} {ls : List Lexeme} → P a n ls → Mapped P g (g a) n ls

mapped_to : {A B : Type 0} {P : Relation A} {g : A → B} (b : B) (n : ℕ) (ls : List Lexeme) → Seq P (λ a. Done (g a)) b n ls → Mapped P g b n ls
mapped_to {P = P} {g = g} b n ls (both {a = a} {m = m} {ts = ts} p stays) =
    subst (λ (us : List Lexeme). Mapped P g (g a) (m + 0) us) (sym (append-nil ts)) (counts (Mapped P g) (g a) m (m + 0) ts (omega arith) (mapped p))

mapped_back : {A B : Type 0} {P : Relation A} {g : A → B} (b : B) (n : ℕ) (ls : List Lexeme) → Mapped P g b n ls → Seq P (λ a. Done (g a)) b n ls
mapped_back {P = P} {g = g} b n ls (mapped {a = a} p) =
    let r : Seq P (λ a. Done (g a)) (g a) (n + 0) (ls ++ []) = both p stays in
    subst (λ (us : List Lexeme). Seq P (λ a. Done (g a)) (g a) n us) (append-nil ls) (counts (Seq P (λ a. Done (g a))) (g a) (n + 0) n (ls ++ []) (omega arith) r)

pub reads_mapped : {A B : Type 0} {f : Reader A} {P : Relation A} (g : A → B) → Reads f P → Reads (next f (λ a. done (g a))) (Mapped P g)
reads_mapped g p = reads_as mapped_to mapped_back (seq p (λ a. reads_done (g a)))

-- a measure that nothing adds to
abbrev pub free : {A : Type 0} → A → ℕ
free a = 0

-- variables

abbrev VariableParts : Variables → Relation Variables
VariableParts before =
    Seq (One (NewName before.names)) (λ w. Seq (One (Numeral 0 (max_maximum + 1))) (λ m. Seq (One (Numeral 0 (m + 1))) (λ i. Done (with_variable before w m i))))

variable_to : (before b : Variables) (n : ℕ) (ls : List Lexeme) → VariableParts before b n ls → Leads free Variable before b n ls
variable_to before b n ls (both (is_token p) (both (is_token q) (both (is_token r) stays))) = (G.variable p q r, omega arith)

variable_back : (before b : Variables) (n : ℕ) (ls : List Lexeme) → Leads free Variable before b n ls → VariableParts before b n ls
variable_back before b n ls (G.variable {a = a} {b = b2} {c = c} p q r, e) = counts (VariableParts before) _ 0 n _ (omega arith) (both (is_token p) (both (is_token q) (both (is_token r) stays)))

pub reads_variable : (before : Variables) → Reads (variable before) (Leads free Variable before)
reads_variable before =
    reads_as (variable_to before) (variable_back before) (seq (reads_one _ _ (tells_new before.names)) (λ w. seq (reads_one _ _ (tells_number 0 (max_maximum + 1))) (λ m. seq (reads_one _ _ (tells_number 0 (m + 1))) (λ i. reads_done (with_variable before w m i)))))

-- locations

abbrev pub LocationIf : List Name → Bool → Locations → Relation Locations
LocationIf variables few before b n ls = Location variables before b ls × (few ≡ true) × (0 ≡ n)

abbrev LocationParts : List Name → Bool → Locations → Relation Locations
LocationParts variables few before = Seq (One (NewName (variables ++ before.names))) (λ w. Seq (One (RegionIf few)) (λ r. Done (with_location before w r)))

location_to : (variables : List Name) (few : Bool) (before b : Locations) (n : ℕ) (ls : List Lexeme) → LocationParts variables few before b n ls → LocationIf variables few before b n ls
location_to variables few before b n ls (both (is_token p) (both (is_token (region_if f q)) stays)) = (G.location p q, f, omega arith)

location_back : (variables : List Name) (few : Bool) (before b : Locations) (n : ℕ) (ls : List Lexeme) → LocationIf variables few before b n ls → LocationParts variables few before b n ls
location_back variables few before b n ls (G.location p q, f, e) = counts (LocationParts variables few before) _ 0 n _ e (both (is_token p) (both (is_token (region_if f q)) stays))

pub reads_location_if : (variables : List Name) (few : Bool) (before : Locations) → Reads (location variables few before) (LocationIf variables few before)
reads_location_if variables few before =
    reads_as (location_to variables few before) (location_back variables few before) (seq (reads_one _ _ (tells_new (variables ++ before.names))) (λ w. seq (reads_one _ _ (tells_region few)) (λ r. reads_done (with_location before w r))))

pub reads_location : (variables : List Name) (before : Locations) → Reads (location variables true before) (Leads free (Location variables) before)
reads_location variables before =
    reads_as (λ b n ls h. (h.0, omega (arith, h.2))) (λ b n ls h. (h.0, refl, omega (arith, h.1))) (reads_location_if variables true before)

-- expressions

abbrev pub Counted : List Name → Relation Tree
Counted variables e n ls = Formula variables e ls × (n ≡ length (items e))

outcome_read : (o : E.Outcome) (e : Tree) (t : Position) → from_outcome o ≡ read e t → (u : E.State) × (o ≡ E.read e u) × (t.rest ≡ u.rest) × (t.items ≡ u.items)
outcome_read (E.refused n x) e t h = clash h
outcome_read (E.read a u) e t h =
    let p : a ≡ e = cc in
    let q : ◌≡◌ {A = Position} (record { rest = u.rest; items = u.items }) t = cc in
    (u, ap (λ b. E.read b u) p, sym (ap (λ (z : Position). z.rest) q), sym (ap (λ (z : Position). z.items) q))

formula_sound : (variables : List Name) → Sound (formula variables) (Counted variables)
unfolding formula
formula_sound variables s e t h =
    let o = outcome_read _ e t h in
    let r = sound_reading (index_of variables) max_levels (fresh s) e o.0 o.1 in
    let p : o.0.items ≡ s.items + length (items e) = ap (λ (u : E.State). u.items) r.3 in
    let few : operands e ≤ max_operands = omega (arith, r.4.0) in
    record {
      count = length (items e);
      tokens = r.0;
      split = subst (λ (x : Stream). Begins s.rest r.0 x) (sym o.2) r.1;
      holds = (G.formula r.2 few, refl);
      used = o.3 ∙ p;
      room = λ l. omega (arith, r.4.1, o.3, p);
    }

-- what comes after an expression begins with a token that is no operator
abbrev pub Plain : List Lexeme → Type 0
Plain us = (l : Lexeme) × (ts : List Lexeme) × (us ≡ l ∷ ts) × ((o : Operator) → l ≡ sign o → ⊥)

plain_front : (x y : Stream) (us : List Lexeme) → Plain us → Begins x us y → NoOperator x
plain_front x y us (l, ts, e, plain) b o h =
    let f = begins_one x y l ts (subst (λ (w : List Lexeme). Begins x w y) e b) in
    let g : a_token l ≡ a_token (sign o) = sym f.0 ∙ h in
    plain o (cc)

formula_go : (variables : List Name) (s : Position) (e : Tree) (n : ℕ) (ls : List Lexeme) (x : Stream) → Counted variables e n ls → Begins s.rest ls x → s.items + n ≤ max_items → NoOperator x → formula variables s ≡ read e (record { rest = x; items = s.items + n })
unfolding formula
formula_go variables s e n ls x (G.formula d few, c) b l plain =
    let fits : (0 + operands e ≤ max_operands) × (s.items + length (items e) ≤ max_items) = (omega arith, omega arith) in
    ap from_outcome (complete_reading (index_of variables) max_levels (fresh s) e ls x d b plain fits) ∙ (λ i. read e (record { rest = x; items = s.items + sym c i }))

outcome_local : (variables : List Name) (s : Position) (o : E.Outcome) → L.LocalTo (E.expression (index_of variables) (E.levels (index_of variables) max_levels)) (fresh s) o → LocalTo (formula variables) s (from_outcome o)
unfolding formula
outcome_local variables s (E.refused n x) m = record { before = m.before; split = m.split; again = λ x q b h. ap from_outcome (m.again x q b h) }
outcome_local variables s (E.read e u) m = record { before = m.before; split = m.split; again = λ x q b h. ap from_outcome (m.again x q b h) }

formula_local : (variables : List Name) → Local (formula variables)
unfolding formula
formula_local variables s =
    let m = outcome_local variables s (E.expression (index_of variables) (E.levels (index_of variables) max_levels) (fresh s)) (read_local (index_of variables) max_levels (fresh s)) in
    record { before = m.before; split = m.split; again = m.again }

pub seq_formula : {B : Type 0} {k : Tree → Reader B} {Q : Tree → Relation B} (variables : List Name) → ((e : Tree) (b : B) (n : ℕ) (us : List Lexeme) → Q e b n us → Plain us) → ((e : Tree) → Reads (k e) (Q e)) → Reads (next (formula variables) k) (Seq (Counted variables) Q)
seq_formula {k = k} {Q = Q} variables plain q =
    reads_next_if (formula variables) k (Counted variables) Q (formula_sound variables) (λ s a n ls x d r l b m us y e g. formula_go variables s a n ls x d r l (plain_front x y us (plain a b m us e) g)) (formula_local variables) q
