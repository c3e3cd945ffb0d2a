-- The grammar of lock texts: which tokens are which program. Assumes nothing.
use Rattle.std.specs.Prelude.{◌≡◌, ℕ, suc, ◌+◌, ◌<◌, ◌≤◌, List, [], ◌∷◌, ◌++◌, Some, None, Option}
use Rattle.std.specs.List.{AllByRecursion}
use Rattle.system.specs.declared.Region.{Region}
use Rattle.system.specs.declared.Region.TheVariants as Regions
use Rattle.lock_text.specs.Spelling.{Lexeme, name, number, word, mark}
use Rattle.lock_text.specs.declared.token.Word.TheVariants as Words
use Rattle.lock_text.specs.declared.token.Mark.TheVariants as Marks
use Rattle.expression.specs.Tree.{Tree, operands, max_operands, max_levels, max_items}
use Rattle.expression_grammar.specs.Kinds.{decimal}
use Rattle.expression_grammar.specs.Grammar.{Expression, rules}
use Rattle.step_rule.specs.Programs.{Program, Command, Assignment, Spares, max_processes, max_variables, max_locations, max_classes, max_commands, max_states, max_maximum}
use Rattle.step_rule.specs.Codes.{state_count}
use Rattle.lock_grammar.specs.Names.{Name, index_of, Variables, no_variables, with_variable, Locations, no_locations, with_location, program, item_count}

-- So many parts one after another: each leads on from what was declared before it.
pub data Repeated {A : Type 0} (Part : A → A → List Lexeme → Type 0) : ℕ → A → A → List Lexeme → Type 0 where
  none : {a : A} → Repeated Part 0 a a []
  more : {n : ℕ} {a b c : A} {ts us : List Lexeme} → Part a b ts → Repeated Part n b c us → Repeated Part (suc n) a c (ts ++ us)

-- A number from `low` up to but not including `bound`.
pub data Numeral (low bound : ℕ) : ℕ → Lexeme → Type 0 where
  numeral : (w : List ℕ) → low ≤ decimal w → decimal w < bound → Numeral low bound (decimal w) (number w)

-- A name that is not among those declared before.
pub data NewName (before : List Name) : Name → Lexeme → Type 0 where
  new_name : (w : Name) → index_of before w ≡ None → NewName before w (name w)

-- One of these names, by its number.
pub data KnownName (names : List Name) : ℕ → Lexeme → Type 0 where
  known_name : (w : Name) (i : ℕ) → index_of names w ≡ Some i → KnownName names i (name w)

-- A region word.
pub data RegionWord : Region → Lexeme → Type 0 where
  idle : RegionWord Regions.Idle (word Words.Idle)
  try : RegionWord Regions.Try (word Words.Try)
  crit : RegionWord Regions.Crit (word Words.Crit)
  exit : RegionWord Regions.Exit (word Words.Exit)

-- A class below `classes`, or `none`.
pub data Class (classes : ℕ) : Option ℕ → Lexeme → Type 0 where
  a_class : (w : List ℕ) → decimal w < classes → Class classes (Some (decimal w)) (number w)
  no_class : Class classes None (word Words.None)

-- A variable: a name, a maximum (0 to 255) and an initial value up to it.
pub data Variable : Variables → Variables → List Lexeme → Type 0 where
  variable :
      {before : Variables} {w : Name} {maximum initial : ℕ} {a b c : Lexeme} →
      NewName before.names w a → Numeral 0 (max_maximum + 1) maximum b → Numeral 0 (maximum + 1) initial c →
      Variable before (with_variable before w maximum initial) (a ∷ b ∷ c ∷ [])

-- A location: a name and its region word. Variables and locations share one space of names.
pub data Location (variables : List Name) : Locations → Locations → List Lexeme → Type 0 where
  location :
      {before : Locations} {w : Name} {region : Region} {a b : Lexeme} →
      NewName (variables ++ before.names) w a → RegionWord region b →
      Location variables before (with_location before w region) (a ∷ b ∷ [])

-- An expression over these variables, within the limits on levels and operands.
pub data Formula (variables : List Name) : Tree → List Lexeme → Type 0 where
  formula :
      {e : Tree} {ts : List Lexeme} →
      Expression (index_of variables) (rules (index_of variables) max_levels) e ts → operands e ≤ max_operands →
      Formula variables e ts

-- A variable not assigned before.
pub data Target (variables : List Name) (before : List Assignment) : ℕ → Lexeme → Type 0 where
  target : {v : ℕ} {l : Lexeme} → KnownName variables v l → AllByRecursion (Spares v) before → Target variables before v l

-- Assignments `name = expression`, split by commas, and the `;` after them: those before, and with these.
pub data Assigned (variables : List Name) : List Assignment → List Assignment → List Lexeme → Type 0 where
  last :
      {before : List Assignment} {v : ℕ} {e : Tree} {a : Lexeme} {ts : List Lexeme} →
      Target variables before v a → Formula variables e ts →
      Assigned variables before (before ++ (record { target = v; source = e } ∷ [])) (a ∷ mark Marks.Assign ∷ (ts ++ (mark Marks.Semicolon ∷ [])))
  and_then :
      {before all : List Assignment} {v : ℕ} {e : Tree} {a : Lexeme} {ts us : List Lexeme} →
      Target variables before v a → Formula variables e ts → Assigned variables (before ++ (record { target = v; source = e } ∷ [])) all us →
      Assigned variables before all (a ∷ mark Marks.Assign ∷ (ts ++ (mark Marks.Comma ∷ us)))

-- Such assignments, or nothing, and the `;`.
pub data Assignments (variables : List Name) : List Assignment → List Lexeme → Type 0 where
  nothing : Assignments variables [] (mark Marks.Semicolon ∷ [])
  something : {all : List Assignment} {ts : List Lexeme} → Assigned variables [] all ts → Assignments variables all ts

-- A command: a process, a from location, a to location, a class or `none`, then `:` guard `:` assignments `;`.
pub data OneCommand (processes classes : ℕ) (variables locations : List Name) : List Command → List Command → List Lexeme → Type 0 where
  command :
      {before : List Command} {process from to : ℕ} {class : Option ℕ} {guard : Tree} {assignments : List Assignment} {a b c d : Lexeme} {ts us : List Lexeme} →
      Numeral 0 processes process a → KnownName locations from b → KnownName locations to c → Class classes class d →
      Formula variables guard ts → Assignments variables assignments us →
      OneCommand processes classes variables locations before
      (before ++ (record { process = process; from = from; to = to; class = class; guard = guard; assignments = assignments } ∷ []))
      (a ∷ b ∷ c ∷ d ∷ mark Marks.Colon ∷ (ts ++ (mark Marks.Colon ∷ us)))

-- A whole text: `procs` P, `vars` V and the variables, `locs` L and the locations, `classes` J, `cmds` K and the
-- commands, within the limits on items and states.
pub data LockText : Program → List Lexeme → Type 0 where
  lock_text :
      {p v l j k : ℕ} {variables : Variables} {locations : Locations} {commands : List Command} {a b c d e : Lexeme} {vs ls cs : List Lexeme} →
      Numeral 1 (max_processes + 1) p a →
      Numeral 0 (max_variables + 1) v b → Repeated Variable v no_variables variables vs →
      Numeral 1 (max_locations + 1) l c → Repeated (Location variables.names) l no_locations locations ls →
      Numeral 0 (max_classes + 1) j d →
      Numeral 0 (max_commands + 1) k e → Repeated (OneCommand p j variables.names locations.names) k [] commands cs →
      item_count commands ≤ max_items →
      state_count (program p variables locations j commands) ≤ max_states →
      LockText (program p variables locations j commands)
      (word Words.Procs ∷ a ∷ word Words.Vars ∷ b ∷ (vs ++ (word Words.Locs ∷ c ∷ (ls ++ (word Words.Classes ∷ d ∷ word Words.Cmds ∷ e ∷ cs)))))
