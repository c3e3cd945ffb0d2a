-- Laws of readers, proved once for each way to put them together. Assumes nothing.
use Rattle.std.proofs.Common.{◌≡◌, ℕ, zero, suc, ◌+◌, ◌-◌, ◌≤◌, List, [], ◌∷◌, ◌++◌, sym, refl, ap, ◌∙◌, subst, arith}
use Rattle.lock_text.specs.Spelling.{Lexeme}
use Rattle.token_stream.specs.Streams.{Stream, token, fault, end}
use Rattle.expression.specs.Tree.{max_items}
use Rattle.expression_grammar.specs.Kinds.{behind, place}
use Rattle.expression_grammar.specs.Laws.{Begins, Front, a_token, a_fault, the_end, front}
use Rattle.expression_grammar.proofs.Facts.{begins_on, begins_split, begins_one, begins_with, same_front}
use Rattle.lock_grammar.specs.Combinators.{Position, Result, refused, read, Reader, then, done, next, Verdict, takes, refuses, judged, by_verdict, one, times}
use Rattle.lock_grammar.specs.Grammar as G
use Rattle.lock_grammar.specs.Grammar.{Repeated}

-- what was read, how many items it counts, and its tokens
abbrev pub Relation : Type 0 → Type 1
Relation A = A → ℕ → List Lexeme → Type 0

abbrev pub moved : Position → Stream → ℕ → Position
moved s x n = record { rest = x; items = s.items + n }

abbrev pub at : Position → Stream → Position
at s x = record { rest = x; items = s.items }

-- from s to t the tokens of a were read
pub record Got {A : Type 0} (P : Relation A) (s : Position) (a : A) (t : Position) : Type 0 where
  pub count : ℕ
  pub tokens : List Lexeme
  pub split : Begins s.rest tokens t.rest
  pub holds : P a count tokens
  pub used : t.items ≡ s.items + count
  pub room : s.items ≤ max_items → t.items ≤ max_items

abbrev pub rest_of : {A : Type 0} → Result A → Stream
rest_of (refused n x) = x
rest_of (read a s) = s.rest

abbrev pub with_rest : {A : Type 0} → Result A → Stream → Result A
with_rest (refused n x) q = refused n q
with_rest (read a s) q = read a (at s q)

-- f comes to o at s, and to the same in any other stream with the same tokens up to and through the one where it stops
pub record LocalTo {A : Type 0} (f : Reader A) (s : Position) (o : Result A) : Type 0 where
  pub before : List Lexeme
  pub split : Begins s.rest before (rest_of o)
  pub again : (x q : Stream) → Begins x before q → front q ≡ front (rest_of o) → f (at s x) ≡ with_rest o q

abbrev pub Local : {A : Type 0} → Reader A → Type 0
Local f = (s : Position) → LocalTo f s (f s)

abbrev pub Sound : {A : Type 0} → Reader A → Relation A → Type 0
Sound {A} f P = (s : Position) (a : A) (t : Position) → f s ≡ read a t → Got P s a t

abbrev pub Complete : {A : Type 0} → Reader A → Relation A → Type 0
Complete {A} f P = (s : Position) (a : A) (n : ℕ) (ls : List Lexeme) (x : Stream) → P a n ls → Begins s.rest ls x → s.items + n ≤ max_items → f s ≡ read a (moved s x n)

-- f reads exactly what is in P, and looks no further
pub record Reads {A : Type 0} (f : Reader A) (P : Relation A) : Type 0 where
  pub sound : Sound f P
  pub complete : Complete f P
  pub local : Local f

pub clash : {A : Type 0} {B : Type 0} {n : ℕ} {x : Stream} {a : A} {s : Position} → ◌≡◌ {A = Result A} (refused n x) (read a s) → B
clash h = let z : ◌≡◌ {A = ℕ} 0 1 = cc in absurd (omega arith)

pub same : {A : Type 0} (P : Relation A) (s0 : Position) (a b : A) (s t : Position) → read a s ≡ read b t → Got P s0 a s → Got P s0 b t
same {A} P s0 a b s t h g =
    let p : a ≡ b = cc in
    let q : s ≡ t = cc in
    subst (λ (x : A). Got P s0 x t) p (subst (λ (x : Position). Got P s0 a x) q g)

-- the same reader by another relation

pub got_as : {A : Type 0} (P Q : Relation A) → ((a : A) (n : ℕ) (ls : List Lexeme) → P a n ls → Q a n ls) → (s : Position) (a : A) (t : Position) → Got P s a t → Got Q s a t
got_as P Q to s a t g = record { count = g.count; tokens = g.tokens; split = g.split; holds = to a g.count g.tokens g.holds; used = g.used; room = g.room }

pub reads_as : {A : Type 0} {f : Reader A} {P Q : Relation A} → ((a : A) (n : ℕ) (ls : List Lexeme) → P a n ls → Q a n ls) → ((a : A) (n : ℕ) (ls : List Lexeme) → Q a n ls → P a n ls) → Reads f P → Reads f Q
reads_as {A} {f} {P} {Q} to back r = record {
  sound = λ s a t h. got_as P Q to s a t (r.sound s a t h);
  complete = λ s a n ls x q b l. r.complete s a n ls x (back a n ls q) b l;
  local = r.local;
}

-- nothing

pub data Done {A : Type 0} (a : A) : A → ℕ → List Lexeme → Type 0 where
  stays : Done a a 0 []

done_complete : {A : Type 0} {a b : A} {n : ℕ} {ls : List Lexeme} → Done a b n ls → (s : Position) (x : Stream) → Begins s.rest ls x → done a s ≡ read b (moved s x n)
done_complete {a = a} stays s x b = let q : s.items ≡ s.items + 0 = omega arith in λ i. read a (record { rest = b i; items = q i })

pub local_read : {A : Type 0} (a : A) (s : Position) → LocalTo (done a) s (read a s)
local_read a s = record { before = []; split = refl; again = λ x q b h. ap (λ y. read a (at s y)) b }

pub reads_done : {A : Type 0} (a : A) → Reads (done a) (Done a)
reads_done a = record {
  sound = λ s b t h. same (Done a) s a b s t h (record { count = 0; tokens = []; split = refl; holds = stays; used = omega arith; room = λ l. l });
  complete = λ s b n ls x d r l. done_complete d s x r;
  local = local_read a;
}

-- one token

-- the test takes exactly the tokens of R
pub record Tells {A : Type 0} (test : Lexeme → Verdict A) (R : A → Lexeme → Type 0) : Type 0 where
  pub told : (l : Lexeme) (a : A) → test l ≡ takes a → R a l
  pub tells : (a : A) (l : Lexeme) → R a l → test l ≡ takes a

pub data One {A : Type 0} (R : A → Lexeme → Type 0) : A → ℕ → List Lexeme → Type 0 where
  is_token : {a : A} {l : Lexeme} → R a l → One R a 0 (l ∷ [])

no_take : {A : Type 0} {B : Type 0} {n : ℕ} {a : A} → ◌≡◌ {A = Verdict A} (refuses n) (takes a) → B
no_take h = let z : ◌≡◌ {A = ℕ} 0 1 = cc in absurd (omega arith)

verdict_read : {A : Type 0} (v : Verdict A) (s : Position) (a : A) (t : Position) → by_verdict v s ≡ read a t → (v ≡ takes a) × (t ≡ at s (behind s.rest))
verdict_read (takes b) s a t h = (cc, cc)
verdict_read (refuses n) s a t h = clash h

judged_takes : {A : Type 0} (test : Lexeme → Verdict A) (x : Stream) (a : A) → judged test x ≡ takes a → (l : Lexeme) × (x ≡ token l (place x) (behind x)) × (test l ≡ takes a)
judged_takes test (token l i x) a h = (l, refl, h)
judged_takes test (fault i) a h = no_take h
judged_takes test (end i) a h = no_take h

module _ {A : Type 0} (test : Lexeme → Verdict A) (R : A → Lexeme → Type 0) (ok : Tells test R) where
  one_sound : Sound (one test) (One R)
  unfolding one
  one_sound s a t h =
      let v = verdict_read (judged test s.rest) s a t h in
      let j = judged_takes test s.rest a v.0 in
      let e : t.rest ≡ behind s.rest = ap (λ (p : Position). p.rest) v.1 in
      let f : t.items ≡ s.items = ap (λ (p : Position). p.items) v.1 in
      record {
        count = 0;
        tokens = j.0 ∷ [];
        split = begins_with s.rest j.0 j.1 t.rest [] (sym e);
        holds = is_token (ok.told j.0 a j.2);
        used = omega arith;
        room = λ l. omega arith;
      }

  judged_at : (x y : Stream) (l : Lexeme) → Begins x (l ∷ []) y → (judged test x ≡ test l) × (behind x ≡ y)
  judged_at x y l (i, z, e, p) = (ap (judged test) e, ap behind e ∙ p)

  one_go : {a : A} {n : ℕ} {ls : List Lexeme} → One R a n ls → (s : Position) (x : Stream) → Begins s.rest ls x → one test s ≡ read a (moved s x n)
  unfolding one
  one_go {a} (is_token {l = l} r) s x b =
      let j = judged_at s.rest x l b in
      let q : s.items ≡ s.items + 0 = omega arith in
      ap (λ v. by_verdict v s) (j.0 ∙ ok.tells a l r) ∙ (λ i. read a (record { rest = j.1 i; items = q i }))

judged_in : {A : Type 0} → (Lexeme → Verdict A) → Front → Verdict A
judged_in test (a_token l) = test l
judged_in test a_fault = refuses 2
judged_in test the_end = refuses 3

judged_is : {A : Type 0} (test : Lexeme → Verdict A) (x : Stream) → judged test x ≡ judged_in test (front x)
unfolding judged_in
judged_is test (token l i x) = refl
judged_is test (fault i) = refl
judged_is test (end i) = refl

same_verdict : {A : Type 0} (test : Lexeme → Verdict A) (x y : Stream) → front x ≡ front y → judged test x ≡ judged test y
same_verdict test x y h = judged_is test x ∙ ap (judged_in test) h ∙ sym (judged_is test y)

one_local_at : {A : Type 0} (test : Lexeme → Verdict A) (s : Position) (v : Verdict A) → judged test s.rest ≡ v → LocalTo (one test) s (by_verdict v s)
unfolding one
one_local_at test s (takes a) h =
    let j = judged_takes test s.rest a h in
    record {
      before = j.0 ∷ [];
      split = begins_with s.rest j.0 j.1 (behind s.rest) [] refl;
      again = λ x q b f.
          let o = begins_one x q j.0 [] b in
          ap (λ v. by_verdict v (at s x)) (same_verdict test x s.rest (o.0 ∙ sym (ap front j.1)) ∙ h) ∙ ap (λ y. read a (at s y)) o.1;
    }
one_local_at test s (refuses n) h = record {
  before = [];
  split = refl;
  again = λ x q b f. ap (λ v. by_verdict v (at s x)) (same_verdict test x s.rest (ap front b ∙ f) ∙ h) ∙ ap (refused n) b;
}

pub one_local : {A : Type 0} (test : Lexeme → Verdict A) → Local (one test)
unfolding one
one_local test s = one_local_at test s (judged test s.rest) refl

pub reads_one : {A : Type 0} (test : Lexeme → Verdict A) (R : A → Lexeme → Type 0) → Tells test R → Reads (one test) (One R)
reads_one test R ok = record { sound = one_sound test R ok; complete = λ s a n ls x o b l. one_go test R ok o s x b; local = one_local test }

-- one reader, then another

pub data Seq {A B : Type 0} (P : Relation A) (Q : A → Relation B) : B → ℕ → List Lexeme → Type 0 where
  both : {a : A} {b : B} {m n : ℕ} {ts us : List Lexeme} → P a m ts → Q a b n us → Seq P Q b (m + n) (ts ++ us)

pub then_read : {A B : Type 0} (o : Result A) (k : A → Reader B) (b : B) (t : Position) → then o k ≡ read b t → (a : A) × (s : Position) × (o ≡ read a s) × (k a s ≡ read b t)
then_read (refused n x) k b t h = clash h
then_read (read a s) k b t h = (a, s, refl, h)

local_then : {A B : Type 0} (f : Reader A) (k : A → Reader B) (s : Position) (o : Result A) → LocalTo f s o → ((a : A) → Local (k a)) → LocalTo (next f k) s (then o k)
unfolding next
local_then f k s (refused n r) l kk = record { before = l.before; split = l.split; again = λ x q b h. ap (λ o. then o k) (l.again x q b h) }
local_then f k s (read a t) l kk =
    let m = kk a t in
    record {
      before = l.before ++ m.before;
      split = begins_on s.rest t.rest (rest_of (k a t)) l.before m.before l.split m.split;
      again = λ x q b h.
          let c = begins_split x q l.before m.before b in
          ap (λ o. then o k) (l.again x c.0 c.1 (same_front c.0 t.rest q (rest_of (k a t)) m.before c.2 m.split h)) ∙ m.again c.0 q c.2 h;
    }

pub next_local : {A B : Type 0} (f : Reader A) (k : A → Reader B) → Local f → ((a : A) → Local (k a)) → Local (next f k)
unfolding next
next_local f k l kk s = let m = local_then f k s (f s) (l s) kk in record { before = m.before; split = m.split; again = m.again }

module _ {A B : Type 0} (f : Reader A) (k : A → Reader B) (P : Relation A) (Q : A → Relation B) where
  pub next_sound : Sound f P → ((a : A) → Sound (k a) (Q a)) → Sound (next f k) (Seq P Q)
  unfolding next
  next_sound p q s b t h =
      let c = then_read (f s) k b t h in
      let g = p s c.0 c.1 c.2 in
      let i = q c.0 c.1 b t c.3 in
      record {
        count = g.count + i.count;
        tokens = g.tokens ++ i.tokens;
        split = begins_on s.rest c.1.rest t.rest g.tokens i.tokens g.split i.split;
        holds = both g.holds i.holds;
        used = omega (arith, g.used, i.used);
        room = λ l. i.room (g.room l);
      }

  -- the first reader may ask what it is that follows
  abbrev pub CompleteIf : Type 0
  CompleteIf =
      (s : Position) (a : A) (n : ℕ) (ls : List Lexeme) (x : Stream) → P a n ls → Begins s.rest ls x → s.items + n ≤ max_items → (b : B) (m : ℕ) (us : List Lexeme) (y : Stream) → Q a b m us → Begins x us y → f s ≡ read a (moved s x n)

  next_go : CompleteIf → ((a : A) → Complete (k a) (Q a)) → {b : B} {n : ℕ} {ls : List Lexeme} → Seq P Q b n ls → (s : Position) (x : Stream) → Begins s.rest ls x → s.items + n ≤ max_items → next f k s ≡ read b (moved s x n)
  unfolding next
  next_go p q {b} (both {a} {m = m} {n = n} {ts = ts} {us = us} d e) s x r l =
      let c = begins_split s.rest x ts us r in
      let sum : s.items + m + n ≡ s.items + (m + n) = omega arith in
      ap (λ o. then o k) (p s a m ts c.0 d c.1 (omega arith) b n us x e c.2) ∙ q a (moved s c.0 m) b n us x e c.2 (omega arith) ∙ (λ i. read b (record { rest = x; items = sum i }))

  pub reads_next_if : Sound f P → CompleteIf → Local f → ((a : A) → Reads (k a) (Q a)) → Reads (next f k) (Seq P Q)
  reads_next_if p c l q = record {
    sound = next_sound p (λ a. (q a).sound);
    complete = λ s b n ls x d r room. next_go c (λ a. (q a).complete) d s x r room;
    local = next_local f k l (λ a. (q a).local);
  }

  pub reads_next : Reads f P → ((a : A) → Reads (k a) (Q a)) → Reads (next f k) (Seq P Q)
  reads_next p q = reads_next_if p.sound (λ s a n ls x d r l b m us y e g. p.complete s a n ls x d r l) p.local q

-- so many parts

-- a part that leads on from a: what it adds to the measure is what it counts
abbrev pub Leads : {A : Type 0} → (A → ℕ) → (A → A → List Lexeme → Type 0) → A → Relation A
Leads cost Part a b n ls = Part a b ls × (cost b ≡ cost a + n)

module _ {A : Type 0} (cost : A → ℕ) (Part : A → A → List Lexeme → Type 0) where
  repeated_from : (n : ℕ) (a : A) (b : A) (k : ℕ) (ls : List Lexeme) → Seq (Leads cost Part a) (Leads cost (Repeated Part n)) b k ls → Leads cost (Repeated Part (suc n)) a b k ls
  repeated_from n a b k ls (both (p, e) (q, f)) = (G.more p q, omega arith)

  zero_from : (a b : A) (k : ℕ) (ls : List Lexeme) → Done a b k ls → Leads cost (Repeated Part 0) a b k ls
  zero_from a b k ls stays = (G.none, omega arith)

  module _ (grows : (a b : A) (ts : List Lexeme) → Part a b ts → cost a ≤ cost b) where
    repeated_up : {n : ℕ} {a b : A} {ls : List Lexeme} → Repeated Part n a b ls → cost a ≤ cost b
    repeated_up G.none = omega arith
    repeated_up (G.more {a = a} {b = c} {ts = ts} p q) = omega (arith, grows a c ts p, repeated_up q)

    repeated_to : (n : ℕ) (a : A) (b : A) (k : ℕ) (ls : List Lexeme) → Leads cost (Repeated Part (suc n)) a b k ls → Seq (Leads cost Part a) (Leads cost (Repeated Part n)) b k ls
    repeated_to n a b k ls (G.more {b = c} {ts = ts} {us = us} p q, e) =
        let g = grows a c ts p in
        let h = repeated_up q in
        let r : Seq (Leads cost Part a) (Leads cost (Repeated Part n)) b ((cost c - cost a) + (cost b - cost c)) (ts ++ us) = both (p, omega arith) (q, omega arith) in
        let z : (cost c - cost a) + (cost b - cost c) ≡ k = omega arith in
        subst (λ (j : ℕ). Seq (Leads cost Part a) (Leads cost (Repeated Part n)) b j (ts ++ us)) z r

    zero_to : (a b : A) (k : ℕ) (ls : List Lexeme) → Leads cost (Repeated Part 0) a b k ls → Done a b k ls
    zero_to a b k ls (G.none, e) =
        let z : 0 ≡ k = omega arith in
        subst (λ (j : ℕ). Done a a j []) z stays

    pub reads_times : (part : A → Reader A) → ((a : A) → Reads (part a) (Leads cost Part a)) → (n : ℕ) (a : A) → Reads (times n part a) (Leads cost (Repeated Part n) a)
    unfolding times
    reads_times part ok zero a = reads_as (zero_from a) (zero_to a) (reads_done a)
    reads_times part ok (suc n) a = reads_as (repeated_from n a) (repeated_to n a) (reads_next (part a) (times n part) (Leads cost Part a) (Leads cost (Repeated Part n)) (ok a) (reads_times part ok n))
