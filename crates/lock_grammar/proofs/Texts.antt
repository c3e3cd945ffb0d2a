-- Whole lock texts: the reading and the grammar agree. Assumes nothing.
use Rattle.std.proofs.Common.{◌≡◌, ℕ, suc, ◌+◌, ◌-◌, ◌≤◌, true, List, [], ◌∷◌, ◌++◌, length, replicate, sym, refl, ap, ◌∙◌, subst, arith, le-leb, leb-true}
use Rattle.lock_text.specs.Spelling.{Lexeme}
use Rattle.lock_text.specs.declared.token.Word.TheVariants as Words
use Rattle.token_stream.specs.Streams.{Stream, token, fault, end}
use Rattle.expression.specs.Tree.{max_items}
use Rattle.expression_grammar.specs.Laws.{Begins, front}
use Rattle.step_rule.specs.Programs.{Program, product, max_processes, max_variables, max_locations, max_classes, max_commands, max_states}
use Rattle.step_rule.specs.Codes.{value_radices}
use Rattle.lock_grammar.specs.Names.{Variables, no_variables, Locations, no_locations, program, item_count}
use Rattle.lock_grammar.specs.Combinators.{Position, Result, refused, read, then, next, ended, at_end}
use Rattle.lock_grammar.specs.Reading.{variable, location, few_states, locations, commands, located, lock_text, text_read}
use Rattle.lock_grammar.specs.Grammar as G
use Rattle.lock_grammar.specs.Grammar.{Repeated, Numeral, Variable, Location, OneCommand, LockText}
use Rattle.lock_grammar.specs.Laws.{SoundTexts, CompleteTexts, OneProgram, FirstFaultOfTexts}
use Rattle.lock_grammar.proofs.Parts.{Relation, LocalTo, Local, rest_of, with_rest, Reads, clash, One, is_token, reads_one, Seq, both, then_read, next_local, Leads, reads_times}
use Rattle.lock_grammar.proofs.Telling.{IsWord, is_word, tells_word, tells_number}
use Rattle.lock_grammar.proofs.Pieces.{seq, counts, Mapped, mapped, reads_mapped, free, reads_variable, LocationIf, reads_location_if, reads_location}
use Rattle.lock_grammar.proofs.Commands.{reads_commands}
use Rattle.lock_grammar.proofs.Lines.{numeral_low, repeated_push, repeated_last, locations_even}

-- the parts of a text

abbrev LocationsParts : ℕ → Variables → ℕ → Relation Locations
LocationsParts p variables l =
    Seq (Leads free (Repeated (Location variables.names) (l - 1)) no_locations) (LocationIf variables.names (few_states p variables.maxima l))

reads_locations : (p : ℕ) (variables : Variables) (l : ℕ) → Reads (locations p variables l) (LocationsParts p variables l)
reads_locations p variables l =
    seq (reads_times free (Location variables.names) (λ a b ts h. omega arith) (location variables.names true) (reads_location variables.names) (l - 1) no_locations) (reads_location_if variables.names (few_states p variables.maxima l))

abbrev CommandsParts : ℕ → Variables → Locations → Relation Program
CommandsParts p variables lines =
    Seq (One (IsWord Words.Classes)) (λ _. Seq (One (Numeral 0 (max_classes + 1))) (λ j. Seq (One (IsWord Words.Cmds)) (λ _. Seq (One (Numeral 0 (max_commands + 1))) (λ k. Mapped (Leads item_count (Repeated (OneCommand p j variables.names lines.names) k) []) (program p variables lines j)))))

reads_commands_part : (p : ℕ) (variables : Variables) (lines : Locations) → Reads (commands p variables lines) (CommandsParts p variables lines)
reads_commands_part p variables lines =
    seq (reads_one _ _ (tells_word Words.Classes)) (λ _. seq (reads_one _ _ (tells_number 0 (max_classes + 1))) (λ j. seq (reads_one _ _ (tells_word Words.Cmds)) (λ _. seq (reads_one _ _ (tells_number 0 (max_commands + 1))) (λ k. reads_mapped (program p variables lines j) (reads_commands p j variables.names lines.names k)))))

abbrev LocatedParts : ℕ → Variables → Relation Program
LocatedParts p variables = Seq (One (IsWord Words.Locs)) (λ _. Seq (One (Numeral 1 (max_locations + 1))) (λ l. Seq (LocationsParts p variables l) (CommandsParts p variables)))

reads_located : (p : ℕ) (variables : Variables) → Reads (located p variables) (LocatedParts p variables)
reads_located p variables =
    seq (reads_one _ _ (tells_word Words.Locs)) (λ _. seq (reads_one _ _ (tells_number 1 (max_locations + 1))) (λ l. seq (reads_locations p variables l) (reads_commands_part p variables)))

abbrev TextParts : Relation Program
TextParts =
    Seq (One (IsWord Words.Procs)) (λ _. Seq (One (Numeral 1 (max_processes + 1))) (λ p. Seq (One (IsWord Words.Vars)) (λ _. Seq (One (Numeral 0 (max_variables + 1))) (λ v. Seq (Leads free (Repeated Variable v) no_variables) (LocatedParts p)))))

reads_text : Reads lock_text TextParts
reads_text =
    seq (reads_one _ _ (tells_word Words.Procs)) (λ _. seq (reads_one _ _ (tells_number 1 (max_processes + 1))) (λ p. seq (reads_one _ _ (tells_word Words.Vars)) (λ _. seq (reads_one _ _ (tells_number 0 (max_variables + 1))) (λ v. seq (reads_times free Variable (λ a b ts h. omega arith) variable reads_variable v no_variables) (reads_located p)))))

-- the locations of a text

module _ (p : ℕ) (variables : Variables) (l : ℕ) (some : 1 ≤ l) where
  suc_back : suc (l - 1) ≡ l
  suc_back = omega arith

  locations_to : (b : Locations) (n : ℕ) (ls : List Lexeme) → LocationsParts p variables l b n ls → Repeated (Location variables.names) l no_locations b ls × (product (value_radices variables.maxima ++ replicate p l) ≤ max_states) × (n ≡ 0)
  locations_to b n ls (both {ts = ts} {us = us} (d, i) (t, few, z)) =
      (subst (λ (k : ℕ). Repeated (Location variables.names) k no_locations b (ts ++ us)) suc_back (repeated_push d t), leb-true _ max_states few, omega arith)

  locations_back : (b : Locations) (ls : List Lexeme) → Repeated (Location variables.names) l no_locations b ls → product (value_radices variables.maxima ++ replicate p l) ≤ max_states → LocationsParts p variables l b 0 ls
  locations_back b ls d few =
      let r = repeated_last (l - 1) no_locations b ls (subst (λ (k : ℕ). Repeated (Location variables.names) k no_locations b ls) (sym suc_back) d) in
      let parts : LocationsParts p variables l b (0 + 0) (r.front_tokens ++ r.last_tokens) = both {m = 0} {n = 0} (r.before_last, refl) (r.the_last, le-leb _ max_states few, refl) in
      subst (λ (w : List Lexeme). LocationsParts p variables l b 0 w) (sym r.tokens) parts

-- the parts of a text are a text

text_to : (q : Program) (n : ℕ) (ls : List Lexeme) → TextParts q n ls → n ≤ max_items → LockText q ls
text_to q n ls (both (is_token is_word) (both {a = p} (is_token a) (both (is_token is_word) (both (is_token b) (both {a = variables} (vs, i) (both (is_token is_word) (both {a = l} (is_token c) (both {a = lines} {m = m} {ts = ts} d (both (is_token is_word) (both {a = j} (is_token e) (both (is_token is_word) (both (is_token f) (mapped {a = cs} (g, h)))))))))))))) few =
    let s = locations_to p variables l (numeral_low c) lines m ts d in
    let r : replicate p l ≡ replicate p (length lines.regions) = ap (λ k. replicate p k) (sym (locations_even s.0)) in
    let states : product (value_radices variables.maxima ++ replicate p (length lines.regions)) ≤ max_states = subst (λ (w : List ℕ). product (value_radices variables.maxima ++ w) ≤ max_states) r s.1 in
    G.lock_text a b vs c s.0 e f g (omega (arith, h, s.2)) states

text_back : (q : Program) (ls : List Lexeme) → LockText q ls → (n : ℕ) × (n ≤ max_items) × TextParts q n ls
text_back q ls (G.lock_text {p = p} {l = l} {j = j} {variables = variables} {locations = lines} {commands = cs} {ls = ts} a b vs c d e f g few states) =
    let r : replicate p (length lines.regions) ≡ replicate p l = ap (λ k. replicate p k) (locations_even d) in
    let s = locations_back p variables l (numeral_low c) lines ts d (subst (λ (w : List ℕ). product (value_radices variables.maxima ++ w) ≤ max_states) r states) in
    let z : item_count cs ≡ 0 + item_count cs = omega arith in (
      item_count cs,
      few,
      counts TextParts _ (0 + (0 + (0 + (0 + (0 + (0 + (0 + (0 + (0 + (0 + (0 + (0 + item_count cs)))))))))))) (item_count cs) _ (omega arith) (both (is_token is_word) (both (is_token a) (both (is_token is_word) (both (is_token b) (both {m = 0} (vs, refl) (both (is_token is_word) (both (is_token c) (both {m = 0} s (both (is_token is_word) (both (is_token e) (both (is_token is_word) (both (is_token f) (mapped {n = item_count cs} (g, z)))))))))))))),
    )

-- the end of a text

ended_read : {A : Type 0} (a : A) (x : Stream) (n : ℕ) (b : A) (t : Position) → ended a x n ≡ read b t → (i : ℕ) × (x ≡ end i) × (a ≡ b)
ended_read a (token l i x) n b t h = clash h
ended_read a (fault i) n b t h = clash h
ended_read a (end i) n b t h = (i, refl, cc)

end_read : {A : Type 0} (a : A) (s : Position) (b : A) (t : Position) → at_end a s ≡ read b t → (i : ℕ) × (s.rest ≡ end i) × (a ≡ b)
unfolding at_end
end_read a s b t h = ended_read a s.rest s.items b t h

-- the same in front, the same end
ended_like : {A : Type 0} (a : A) (x q : Stream) (n : ℕ) → front q ≡ front x → ended a q n ≡ with_rest (ended a x n) q
ended_like a (token l i x) (token m j q) n h = refl
ended_like a (token l i x) (fault j) n h = let z : ◌≡◌ {A = ℕ} 0 1 = cc in absurd (omega arith)
ended_like a (token l i x) (end j) n h = let z : ◌≡◌ {A = ℕ} 0 1 = cc in absurd (omega arith)
ended_like a (fault i) (token m j q) n h = let z : ◌≡◌ {A = ℕ} 0 1 = cc in absurd (omega arith)
ended_like a (fault i) (fault j) n h = refl
ended_like a (fault i) (end j) n h = let z : ◌≡◌ {A = ℕ} 0 1 = cc in absurd (omega arith)
ended_like a (end i) (token m j q) n h = let z : ◌≡◌ {A = ℕ} 0 1 = cc in absurd (omega arith)
ended_like a (end i) (fault j) n h = let z : ◌≡◌ {A = ℕ} 0 1 = cc in absurd (omega arith)
ended_like a (end i) (end j) n h = refl

ended_rest : {A : Type 0} (a : A) (x : Stream) (n : ℕ) → x ≡ rest_of (ended a x n)
ended_rest a (token l i x) n = refl
ended_rest a (fault i) n = refl
ended_rest a (end i) n = refl

end_local : {A : Type 0} (a : A) → Local (at_end a)
unfolding at_end
end_local a s = record {
  before = [];
  split = ended_rest a s.rest s.items;
  again = λ x q b h. ap (λ y. ended a y s.items) b ∙ ended_like a s.rest q s.items (h ∙ sym (ap front (ended_rest a s.rest s.items)));
}

-- the laws of texts

abbrev start : Stream → Position
start x = record { rest = x; items = 0 }

pub sound_texts : SoundTexts
unfolding next
sound_texts x p (s, h) =
    let c = then_read (lock_text (start x)) at_end p s h in
    let g = reads_text.sound (start x) c.0 c.1 c.2 in
    let e = end_read c.0 c.1 p s c.3 in
    let few : g.count ≤ max_items = omega (arith, g.used, g.room (omega arith)) in
    let text : LockText p g.tokens = subst (λ (q : Program). LockText q g.tokens) e.2 (text_to c.0 g.count g.tokens g.holds few) in
    (g.tokens, e.0, subst (λ (y : Stream). Begins x g.tokens y) e.1 g.split, text)

pub complete_texts : CompleteTexts
unfolding next at_end
complete_texts x p (ls, n, b, d) =
    let t = text_back p ls d in
    let r = reads_text.complete (start x) p t.0 ls (end n) t.2 b (omega (arith, t.1)) in
    (record { rest = end n; items = 0 + t.0 }, ap (λ o. then o at_end) r)

-- a stream of just these tokens
alone : List Lexeme → Stream
alone [] = end 0
alone (l ∷ ls) = token l 0 (alone ls)

begins_alone : (ls : List Lexeme) → Begins (alone ls) ls (end 0)
unfolding alone
begins_alone [] = refl
begins_alone (l ∷ ls) = (0, alone ls, refl, begins_alone ls)

same_read : (o : Result Program) (p q : Program) (s t : Position) → o ≡ read p s → o ≡ read q t → p ≡ q
same_read o p q s t h i = cc

pub one_program : OneProgram
one_program ls p q d e =
    let a = complete_texts (alone ls) p (ls, 0, begins_alone ls, d) in
    let b = complete_texts (alone ls) q (ls, 0, begins_alone ls, e) in
    same_read (text_read (alone ls)) p q a.0 b.0 a.1 b.1

pub not_both : (o : Result Program) (m : ℕ) (r : Stream) (p : Program) (s : Position) → o ≡ refused m r → o ≡ read p s → ⊥
not_both o m r p s h i = let z : ◌≡◌ {A = ℕ} 0 1 = cc in omega arith

pub first_fault : FirstFaultOfTexts
first_fault x m r h =
    let l = subst (λ (o : Result Program). LocalTo (next lock_text at_end) (start x) o) h (next_local lock_text at_end reads_text.local end_local (start x)) in (
      l.before,
      l.split,
      λ y q b f.
          let again = l.again y q b f in
          (again, λ p d. let c = complete_texts y p d in not_both (text_read y) m q p c.0 again c.1),
    )
