-- A text has one list of tokens. Assumes nothing.
use Rattle.std.proofs.Common.{◌≡◌, ℕ, ◌<◌, ◌≤◌, true, false, cond, ◌⊎◌, List, [], ◌∷◌, ◌++◌, length, get_or, codes, sym, refl, ap, ◌∙◌, subst, inl, inr, arith, rules}
use Rattle.std.specs.Str.{bytes_eq}
use Rattle.std.proofs.lemmas.Bool.{both_ways, cases_order}
use Rattle.lock_text.specs.Characters.{is_blank, is_letter, is_digit}
use Rattle.lock_text.specs.Spelling.{Lexeme, name, number, word, mark, word_spelling, mark_spelling, spelling, Shape, WellFormed}
use Rattle.lock_text.specs.Tokens.{part, Blanks, TokenAt, NextToken, NoToken, Misspelt, TokensTo, TokensAreOne, FirstFaultIsOne, NoFaultAmongTokens}
use Rattle.lock_text.specs.declared.token.Word.{Word}
use Rattle.lock_text.specs.declared.token.Word.TheVariants.{Procs, Vars, Locs, Classes, Cmds, Idle, Try, Crit, Exit, None, And, Or, Not}
use Rattle.lock_text.specs.declared.token.Mark.{Mark}
use Rattle.lock_text.specs.declared.token.Mark.TheVariants.{Open, Close, Plus, Minus, Assign, Equal, NotEqual, Less, LessEqual, Colon, Semicolon, Comma}
use Rattle.lock_text.proofs.Shapes.{part_first, token_shape, same_end, letter_no_digit, mark_no_letter, mark_no_digit, word_letter}

-- words and marks are told by their spelling

abbrev word_named : List ℕ → Word
word_named w = cond (bytes_eq w (codes "procs")) Procs (cond (bytes_eq w (codes "vars")) Vars (cond (bytes_eq w (codes "locs")) Locs (cond (bytes_eq w (codes "classes")) Classes (cond (bytes_eq w (codes "cmds")) Cmds (cond (bytes_eq w (codes "idle")) Idle (cond (bytes_eq w (codes "try")) Try (cond (bytes_eq w (codes "crit")) Crit (cond (bytes_eq w (codes "exit")) Exit (cond (bytes_eq w (codes "none")) None (cond (bytes_eq w (codes "and")) And (cond (bytes_eq w (codes "or")) Or (Not))))))))))))

named_word : (k : Word) → word_named (word_spelling k) ≡ k
named_word Procs = refl
named_word Vars = refl
named_word Locs = refl
named_word Classes = refl
named_word Cmds = refl
named_word Idle = refl
named_word Try = refl
named_word Crit = refl
named_word Exit = refl
named_word None = refl
named_word And = refl
named_word Or = refl
named_word Not = refl

abbrev mark_named : List ℕ → Mark
mark_named w = cond (bytes_eq w (codes "(")) Open (cond (bytes_eq w (codes ")")) Close (cond (bytes_eq w (codes "+")) Plus (cond (bytes_eq w (codes "-")) Minus (cond (bytes_eq w (codes "=")) Assign (cond (bytes_eq w (codes "==")) Equal (cond (bytes_eq w (codes "!=")) NotEqual (cond (bytes_eq w (codes "<")) Less (cond (bytes_eq w (codes "<=")) LessEqual (cond (bytes_eq w (codes ":")) Colon (cond (bytes_eq w (codes ";")) Semicolon (Comma)))))))))))

named_mark : (m : Mark) → mark_named (mark_spelling m) ≡ m
named_mark Open = refl
named_mark Close = refl
named_mark Plus = refl
named_mark Minus = refl
named_mark Assign = refl
named_mark Equal = refl
named_mark NotEqual = refl
named_mark Less = refl
named_mark LessEqual = refl
named_mark Colon = refl
named_mark Semicolon = refl
named_mark Comma = refl

mark_no_blank : (m : Mark) → is_blank (get_or (mark_spelling m) 0 0) ≡ false
mark_no_blank Open = refl
mark_no_blank Close = refl
mark_no_blank Plus = refl
mark_no_blank Minus = refl
mark_no_blank Assign = refl
mark_no_blank Equal = refl
mark_no_blank NotEqual = refl
mark_no_blank Less = refl
mark_no_blank LessEqual = refl
mark_no_blank Colon = refl
mark_no_blank Semicolon = refl
mark_no_blank Comma = refl

pub letter_no_blank : (b : ℕ) → is_letter b ≡ true → is_blank b ≡ true → ⊥
letter_no_blank b l k = grind (arith, rules)

pub digit_no_blank : (b : ℕ) → is_digit b ≡ true → is_blank b ≡ true → ⊥
digit_no_blank b d k = grind (arith, rules)

shape_no_blank : (w : List ℕ) → Shape w → is_blank (get_or w 0 0) ≡ true → ⊥
shape_no_blank w (inl n) k = letter_no_blank (get_or w 0 0) n.0 k
shape_no_blank w (inr (inl d)) k = digit_no_blank (get_or w 0 0) (d.1 0 d.0) k
shape_no_blank w (inr (inr (m, e))) k = both_ways (is_blank (get_or w 0 0)) (ap (λ v. is_blank (get_or v 0 0)) e ∙ mark_no_blank m) k

-- a lexeme is told by its spelling

first : {v w : List ℕ} → v ≡ w → get_or v 0 0 ≡ get_or w 0 0
first e = ap (λ w. get_or w 0 0) e

name_number : (v w : List ℕ) → WellFormed (name v) → WellFormed (number w) → v ≡ w → ⊥
name_number v w n d e = letter_no_digit (get_or v 0 0) n.0.0 (ap is_digit (first e) ∙ d.0.1 0 d.0.0)

same_lexeme : (l m : Lexeme) → WellFormed l → WellFormed m → spelling l ≡ spelling m → l ≡ m
same_lexeme (name v) (name w) f g e = ap name e
same_lexeme (name v) (number w) f g e = absurd (name_number v w f g e)
same_lexeme (name v) (word k) f g e = absurd (f.2 (k, e))
same_lexeme (name v) (mark m) f g e = absurd (both_ways _ (ap is_letter (first e) ∙ mark_no_letter m) f.0.0)
same_lexeme (number v) (name w) f g e = absurd (name_number w v g f (sym e))
same_lexeme (number v) (number w) f g e = ap number e
same_lexeme (number v) (word k) f g e = absurd (letter_no_digit (get_or v 0 0) (ap is_letter (first e) ∙ word_letter k) (f.0.1 0 f.0.0))
same_lexeme (number v) (mark m) f g e = absurd (both_ways _ (ap is_digit (first e) ∙ mark_no_digit m) (f.0.1 0 f.0.0))
same_lexeme (word k) (name w) f g e = absurd (g.2 (k, sym e))
same_lexeme (word k) (number w) f g e = absurd (letter_no_digit (get_or w 0 0) (ap is_letter (first (sym e)) ∙ word_letter k) (g.0.1 0 g.0.0))
same_lexeme (word j) (word k) f g e = ap word (sym (named_word j) ∙ ap word_named e ∙ named_word k)
same_lexeme (word k) (mark m) f g e = absurd (both_ways _ (ap is_letter (first e) ∙ mark_no_letter m) (word_letter k))
same_lexeme (mark m) (name w) f g e = absurd (both_ways _ (ap is_letter (first (sym e)) ∙ mark_no_letter m) g.0.0)
same_lexeme (mark m) (number w) f g e = absurd (both_ways _ (ap is_digit (first (sym e)) ∙ mark_no_digit m) (g.0.1 0 g.0.0))
same_lexeme (mark m) (word k) f g e = absurd (both_ways _ (ap is_letter (first (sym e)) ∙ mark_no_letter m) (word_letter k))
same_lexeme (mark l) (mark m) f g e = ap mark (sym (named_mark l) ∙ ap mark_named e ∙ named_mark m)

-- the first byte of a token is no blank, so blanks tell where the next token, or the fault, stands

pub token_no_blank : (t : List ℕ) (a : ℕ) (l : Lexeme) (e : ℕ) → TokenAt t a l e → is_blank (get_or t a 0) ≡ true → ⊥
token_no_blank t a l e k b = shape_no_blank (part t a e) (token_shape t a l e k) (ap is_blank (part_first t a e k.some_bytes) ∙ b)

-- after blanks, one place is the first that is no blank
pub same_place : (t : List ℕ) (a s u : ℕ) → a ≤ s → a ≤ u → Blanks t a s → Blanks t a u → s < length t → u < length t →
    (is_blank (get_or t s 0) ≡ true → ⊥) → (is_blank (get_or t u 0) ≡ true → ⊥) → s ≡ u
same_place t a s u ls lu bs bu st ut ns nu = by (cases_order s u)
  where
    by : (s ≡ u) ⊎ ((s < u) ⊎ (u < s)) → s ≡ u
    by (inl same) = same
    by (inr (inl less)) = absurd (ns (bu s ls less st))
    by (inr (inr more)) = absurd (nu (bs u lu more ut))

token_inside : (t : List ℕ) (a : ℕ) (l : Lexeme) (e : ℕ) → TokenAt t a l e → a < length t
token_inside t a l e k = let h = k.some_bytes in let w = k.within in omega arith

pub fault_no_blank : (t : List ℕ) (a s : ℕ) → Misspelt t a s → is_blank (get_or t s 0) ≡ true → ⊥
fault_no_blank t a s k b = both_ways (is_blank (get_or t s 0)) k.no_blank b

one_token : (t : List ℕ) (a : ℕ) (l m : Lexeme) (e f : ℕ) → TokenAt t a l e → TokenAt t a m f → (l ≡ m) × (e ≡ f)
one_token t a l m e f k n =
    let ends : e ≡ f = same_end t a f n.within (token_shape t a m f n) n.longest l e k in
    (same_lexeme l m k.well_formed n.well_formed (k.spelt ∙ ap (part t a) ends ∙ sym n.spelt), ends)

pub one_next : (t : List ℕ) (a : ℕ) (l m : Lexeme) (s e u f : ℕ) → NextToken t a l s e → NextToken t a m u f → (l ≡ m) × (e ≡ f)
one_next t a l m s e u f k n =
    let at : s ≡ u = same_place t a s u k.after n.after k.blanks n.blanks (token_inside t s l e k.token) (token_inside t u m f n.token)
    (token_no_blank t s l e k.token) (token_no_blank t u m f n.token) in
    one_token t u l m e f (subst (λ (i : ℕ). TokenAt t i l e) at k.token) n.token

-- where a token stands, blanks do not go on to the end

pub next_not_none : (t : List ℕ) (a : ℕ) (l : Lexeme) (s e : ℕ) → NextToken t a l s e → NoToken t a → ⊥
next_not_none t a l s e k none =
    let inside = token_inside t s l e k.token in
    token_no_blank t s l e k.token (none s k.after inside inside)

pub next_not_fault : (t : List ℕ) (a : ℕ) (l : Lexeme) (s e u : ℕ) → NextToken t a l s e → Misspelt t a u → ⊥
next_not_fault t a l s e u k n =
    let at : s ≡ u = same_place t a s u k.after n.after k.blanks n.blanks (token_inside t s l e k.token) n.within
    (token_no_blank t s l e k.token) (fault_no_blank t a u n) in
    n.no_token l e (subst (λ (i : ℕ). TokenAt t i l e) at k.token)

pub none_not_fault : (t : List ℕ) (a u : ℕ) → NoToken t a → Misspelt t a u → ⊥
none_not_fault t a u none n = fault_no_blank t a u n (none u n.after n.within n.within)

-- the two lists go on alike as long as both do

from : (t : List ℕ) (a : ℕ) (ls ms : List Lexeme) (e f : ℕ) → TokensTo t a ls e → NoToken t e → TokensTo t a ms f → NoToken t f → ls ≡ ms
from t a [] [] e f h n k m = refl
from t a [] (y ∷ ms) e f h n (s, i, next, k) m = absurd (next_not_none t a y s i next (subst (λ (j : ℕ). NoToken t j) (sym h) n))
from t a (x ∷ ls) [] e f (s, i, next, h) n k m = absurd (next_not_none t a x s i next (subst (λ (j : ℕ). NoToken t j) (sym k) m))
from t a (x ∷ ls) (y ∷ ms) e f (s, i, p, h) n (u, j, q, k) m =
    let same = one_next t a x y s i u j p q in
    let more : ls ≡ ms = from t j ls ms e f (subst (λ (b : ℕ). TokensTo t b ls e) same.1 h) n k m in
    ap (λ z. z ∷ ls) same.0 ∙ ap (λ zs. y ∷ zs) more

pub tokens_are_one_lem : TokensAreOne
tokens_are_one_lem t ls ms (e, h, n) (f, k, m) = from t 0 ls ms e f h n k m

faults : (t : List ℕ) (a : ℕ) (ls ms : List Lexeme) (e f s u : ℕ) → TokensTo t a ls e → Misspelt t e s → TokensTo t a ms f → Misspelt t f u → s ≡ u
faults t a [] [] e f s u h n k m =
    let p : Misspelt t f s = subst (λ (j : ℕ). Misspelt t j s) (sym h ∙ k) n in
    same_place t f s u p.after m.after p.blanks m.blanks p.within m.within (fault_no_blank t f s p) (fault_no_blank t f u m)
faults t a [] (y ∷ ms) e f s u h n (v, i, next, k) m = absurd (next_not_fault t a y v i s next (subst (λ (j : ℕ). Misspelt t j s) (sym h) n))
faults t a (x ∷ ls) [] e f s u (v, i, next, h) n k m = absurd (next_not_fault t a x v i u next (subst (λ (j : ℕ). Misspelt t j u) (sym k) m))
faults t a (x ∷ ls) (y ∷ ms) e f s u (v, i, p, h) n (w, j, q, k) m =
    let same = one_next t a x y v i w j p q in
    faults t j ls ms e f s u (subst (λ (b : ℕ). TokensTo t b ls e) same.1 h) n k m

pub first_fault_is_one : FirstFaultIsOne
first_fault_is_one t s u (ls, e, h, n) (ms, f, k, m) = faults t 0 ls ms e f s u h n k m

apart : (t : List ℕ) (a : ℕ) (ls ms : List Lexeme) (e f s : ℕ) → TokensTo t a ls e → NoToken t e → TokensTo t a ms f → Misspelt t f s → ⊥
apart t a [] [] e f s h n k m = none_not_fault t f s (subst (λ (j : ℕ). NoToken t j) (sym h ∙ k) n) m
apart t a [] (y ∷ ms) e f s h n (v, i, next, k) m = next_not_none t a y v i next (subst (λ (j : ℕ). NoToken t j) (sym h) n)
apart t a (x ∷ ls) [] e f s (v, i, next, h) n k m = next_not_fault t a x v i s next (subst (λ (j : ℕ). Misspelt t j s) (sym k) m)
apart t a (x ∷ ls) (y ∷ ms) e f s (v, i, p, h) n (w, j, q, k) m =
    let same = one_next t a x y v i w j p q in
    apart t j ls ms e f s (subst (λ (b : ℕ). TokensTo t b ls e) same.1 h) n k m

pub no_fault_among_tokens : NoFaultAmongTokens
no_fault_among_tokens t ls s (e, h, n) (ms, f, k, m) = apart t 0 ls ms e f s h n k m

-- one more token at the end

pub tokens_push : (t : List ℕ) (a m s e : ℕ) (ls : List Lexeme) (l : Lexeme) → TokensTo t a ls m → NextToken t m l s e → TokensTo t a (ls ++ (l ∷ [])) e
tokens_push t a m s e [] l h n = (s, e, subst (λ (j : ℕ). NextToken t j l s e) (sym h) n, refl)
tokens_push t a m s e (x ∷ ls) l (v, i, next, h) n = (v, i, next, tokens_push t i m s e ls l h n)
