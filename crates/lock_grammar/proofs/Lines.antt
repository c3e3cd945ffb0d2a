-- Parts one after another, and what they promise of the program. Assumes nothing.
use Rattle.std.proofs.Common.{◌≡◌, ℕ, zero, suc, ◌+◌, ◌<◌, ◌≤◌, List, [], ◌∷◌, ◌++◌, length, Option, sym, refl, ap, ◌∙◌, subst, append_assoc, append-nil, arith, length-append}
use Rattle.std.specs.List.{AllByRecursion}
use Rattle.std.proofs.ByRecursion.{All-push}
use Rattle.lock_text.specs.Spelling.{Lexeme}
use Rattle.step_rule.specs.Programs.{Command, GoodClass, GoodCommand, DigitsBelow, max_maximum}
use Rattle.step_rule.specs.Codes.{value_radices}
use Rattle.step_rule.proofs.Laws.{meaning_lawful}
use Rattle.lock_grammar.specs.Names.{Name, Variables, no_variables, Locations, no_locations}
use Rattle.lock_grammar.specs.Grammar as G
use Rattle.lock_grammar.specs.Grammar.{Repeated, Numeral, Class, Variable, Location, OneCommand}
use Rattle.lock_grammar.specs.Laws.{WellFormedPrograms, LawfulSystems}
use Rattle.lock_grammar.proofs.Good.{known_below, formula_good, assignments_good}

pub numeral_low : {low bound n : ℕ} {l : Lexeme} → Numeral low bound n l → low ≤ n
numeral_low (G.numeral w p q) = p

pub numeral_high : {low bound n : ℕ} {l : Lexeme} → Numeral low bound n l → n < bound
numeral_high (G.numeral w p q) = q

-- the parts before the last, and the last
pub record Last {A : Type 0} (Part : A → A → List Lexeme → Type 0) (n : ℕ) (a c : A) (ls : List Lexeme) : Type 0 where
  pub at_last : A
  pub front_tokens : List Lexeme
  pub last_tokens : List Lexeme
  pub before_last : Repeated Part n a at_last front_tokens
  pub the_last : Part at_last c last_tokens
  pub tokens : ls ≡ front_tokens ++ last_tokens

module _ {A : Type 0} {Part : A → A → List Lexeme → Type 0} where
  -- one more part at the end
  pub repeated_push : {n : ℕ} {a b c : A} {ts us : List Lexeme} → Repeated Part n a b ts → Part b c us → Repeated Part (suc n) a c (ts ++ us)
  repeated_push {a = a} {c = c} {us = us} G.none p = subst (λ (w : List Lexeme). Repeated Part 1 a c w) (append-nil us) (G.more p G.none)
  repeated_push {a = a} {c = c} {us = us} (G.more {n = n} {ts = ts} {us = rest} p q) r =
      subst (λ (w : List Lexeme). Repeated Part (suc (suc n)) a c w) (sym (append_assoc ts rest us)) (G.more p (repeated_push q r))

  pub repeated_last : (n : ℕ) (a c : A) (ls : List Lexeme) → Repeated Part (suc n) a c ls → Last Part n a c ls
  repeated_last zero a c ls (G.more {ts = ts} p G.none) = record { at_last = a; front_tokens = []; last_tokens = ts; before_last = G.none; the_last = p; tokens = append-nil ts }
  repeated_last (suc n) a c ls (G.more {b = b} {ts = ts} {us = us} p q) =
      let r = repeated_last n b c us q in
      record {
        at_last = r.at_last;
        front_tokens = ts ++ r.front_tokens;
        last_tokens = r.last_tokens;
        before_last = G.more p r.before_last;
        the_last = r.the_last;
        tokens = ap (λ w. ts ++ w) r.tokens ∙ sym (append_assoc ts r.front_tokens r.last_tokens);
      }

  -- what each part keeps, all keep
  pub repeated_keeps : (Fine : A → Type 0) → ((a b : A) (ts : List Lexeme) → Part a b ts → Fine a → Fine b) → {n : ℕ} {a b : A} {ls : List Lexeme} → Repeated Part n a b ls → Fine a → Fine b
  repeated_keeps Fine keeps G.none f = f
  repeated_keeps Fine keeps (G.more p q) f = repeated_keeps Fine keeps q (keeps _ _ _ p f)

  -- what each part adds one to
  pub repeated_adds : (size : A → ℕ) → ((a b : A) (ts : List Lexeme) → Part a b ts → size b ≡ size a + 1) → {n : ℕ} {a b : A} {ls : List Lexeme} → Repeated Part n a b ls → size b ≡ size a + n
  repeated_adds size adds G.none = omega arith
  repeated_adds size adds (G.more {a = a} {b = b} {ts = ts} p q) = omega (arith, adds a b ts p, repeated_adds size adds q)

pub length_push : {X : Type 0} (xs : List X) (x : X) → length (xs ++ (x ∷ [])) ≡ length xs + 1
length_push xs x = length-append xs (x ∷ [])

-- variables

digits_push : (maxima initials : List ℕ) (m i : ℕ) → DigitsBelow (value_radices maxima) initials → i < m + 1 → DigitsBelow (value_radices (maxima ++ (m ∷ []))) (initials ++ (i ∷ []))
digits_push [] [] m i d h = (h, tt)
digits_push [] (x ∷ xs) m i d h = absurd d
digits_push (y ∷ ys) [] m i d h = absurd d
digits_push (y ∷ ys) (x ∷ xs) m i (p, d) h = (p, digits_push ys xs m i d h)

record GoodVariables (v : Variables) : Type 0 where
  even : length v.names ≡ length v.maxima
  bytes : AllByRecursion (λ m. m ≤ max_maximum) v.maxima
  below : DigitsBelow (value_radices v.maxima) v.initials

variable_good : (a b : Variables) (ts : List Lexeme) → Variable a b ts → GoodVariables a → GoodVariables b
variable_good a b ts (G.variable {w = w} {maximum = m} {initial = i} p q r) g = record {
  even = omega (arith, length_push a.names w, length_push a.maxima m, g.even);
  bytes = All-push (λ m. m ≤ max_maximum) a.maxima m g.bytes (omega (arith, numeral_high q));
  below = digits_push a.maxima a.initials m i g.below (numeral_high r);
}

pub variables_even : {n : ℕ} {v : Variables} {ls : List Lexeme} → Repeated Variable n no_variables v ls → length v.maxima ≡ n
variables_even d = let q = repeated_adds (λ (v : Variables). length v.maxima) one_more d in omega arith
  where
    one_more : (a b : Variables) (ts : List Lexeme) → Variable a b ts → length b.maxima ≡ length a.maxima + 1
    one_more a b ts (G.variable {maximum = m} p q r) = length_push a.maxima m

variables_good : {n : ℕ} {v : Variables} {ls : List Lexeme} → Repeated Variable n no_variables v ls → GoodVariables v
variables_good d = repeated_keeps GoodVariables variable_good d (record { even = refl; bytes = tt; below = tt })

-- locations

pub locations_even : {variables : List Name} {n : ℕ} {l : Locations} {ls : List Lexeme} → Repeated (Location variables) n no_locations l ls → length l.regions ≡ n
locations_even {variables} d = let q = repeated_adds (λ (l : Locations). length l.regions) one_more d in omega arith
  where
    one_more : (a b : Locations) (ts : List Lexeme) → Location variables a b ts → length b.regions ≡ length a.regions + 1
    one_more a b ts (G.location {region = r} p q) = length_push a.regions r

locations_named : {variables : List Name} {n : ℕ} {l : Locations} {ls : List Lexeme} → Repeated (Location variables) n no_locations l ls → length l.names ≡ n
locations_named {variables} d = let q = repeated_adds (λ (l : Locations). length l.names) one_more d in omega arith
  where
    one_more : (a b : Locations) (ts : List Lexeme) → Location variables a b ts → length b.names ≡ length a.names + 1
    one_more a b ts (G.location {w = w} p q) = length_push a.names w

-- commands

class_good : {classes : ℕ} {c : Option ℕ} {l : Lexeme} → Class classes c l → GoodClass classes c
class_good (G.a_class w p) = p
class_good G.no_class = tt

command_good : (p j : ℕ) (variables locations : List Name) (a b : List Command) (ts : List Lexeme) → OneCommand p j variables locations a b ts → AllByRecursion (GoodCommand p (length locations) j (length variables)) a → AllByRecursion (GoodCommand p (length locations) j (length variables)) b
command_good p j variables locations a b ts (G.command pr f t c g h) good =
    let list = assignments_good h in
    All-push (GoodCommand p (length locations) j (length variables)) a _ good (record {
      process_below = numeral_high pr;
      from_below = known_below f;
      to_below = known_below t;
      class_below = class_good c;
      guard_good = formula_good g;
      assignments_good = list.0;
      assigned_once = list.1;
    })

commands_counted : {p j n : ℕ} {variables locations : List Name} {cs : List Command} {ls : List Lexeme} → Repeated (OneCommand p j variables locations) n [] cs ls → length cs ≡ n
commands_counted {p} {j} {n} {variables} {locations} d = let q = repeated_adds (λ (cs : List Command). length cs) one_more d in omega arith
  where
    one_more : (a b : List Command) (ts : List Lexeme) → OneCommand p j variables locations a b ts → length b ≡ length a + 1
    one_more a b ts (G.command pr f t c g h) = length_push a _

pub well_formed : WellFormedPrograms
well_formed p ls (G.lock_text {p = processes} {j = j} {variables = variables} {locations = locations} {commands = commands} a b vs c lines d e cs few states) =
    let v = variables_good vs in
    let n = variables_even vs in
    let l = locations_even lines in
    let named = locations_named lines in
    let k = commands_counted cs in
    let same_length : length locations.names ≡ length locations.regions = named ∙ sym l in
    let good : AllByRecursion (GoodCommand processes (length locations.names) j (length variables.names)) commands = repeated_keeps (AllByRecursion (GoodCommand processes (length locations.names) j (length variables.names))) (command_good processes j variables.names locations.names) cs tt in
    record {
      some_process = numeral_low a;
      few_processes = omega (arith, numeral_high a);
      few_variables = omega (arith, numeral_high b);
      byte_maxima = v.bytes;
      initials_below = v.below;
      some_location = omega (arith, numeral_low c);
      few_locations = omega (arith, numeral_high c);
      few_classes = omega (arith, numeral_high d);
      few_commands = omega (arith, numeral_high e);
      commands_good = subst (λ (m : ℕ). AllByRecursion (GoodCommand processes m j (length variables.maxima)) commands) same_length (subst (λ (m : ℕ). AllByRecursion (GoodCommand processes (length locations.names) j m) commands) v.even good);
      few_states = states;
    }

pub lawful_systems : LawfulSystems
lawful_systems p ls d = meaning_lawful p (well_formed p ls d)
