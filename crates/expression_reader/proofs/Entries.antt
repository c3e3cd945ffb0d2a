-- An expression from any place of a text. Assumes nothing.
use Rattle.std.proofs.Common.{◌≡◌, ℕ, ◌<◌, ◌≤◌, List, ◌++◌, length, get_or, take, Ok, Err, Result, sym, refl, ap, ◌∙◌, arith}
use Rattle.lock_text.specs.Refusals.{refusal_number}
use Rattle.lock_text.specs.declared.refusal.TextRefusal.{TextRefusal}
use Rattle.lock_text.specs.declared.refusal.TextRefusal.TheVariants.{Unwanted}
use Rattle.token_stream.specs.Streams.{Stream, token, fault, end, Streams}
use Rattle.expression.specs.Tree.{items, max_levels}
use Rattle.expression_grammar.specs.Kinds.{Scope}
use Rattle.expression_grammar.specs.Reading.{refused, read, more, chain, atom, factor, expression, levels}
use Rattle.expression_grammar.proofs.Sound.{sound_reading}
use Rattle.expression_grammar.proofs.Local.{first_fault}
use Rattle.expression_reader.specs.Ahead.{ahead}
use Rattle.expression_reader.specs.State.{state, Took, Refused, Reads}
use Rattle.expression_reader.specs.Expressions.{begun, TookExpression, RefusedExpression, CameTo}
use Rattle.expression_reader.specs.declared.reader.Reader.{Reader}
use Rattle.expression_reader.proofs.Ahead.{streams_ahead, ahead_is}

refused_expression : (scope : Scope) (x : Stream) (r : Reader) (f : TextRefusal) → Refused (expression scope (levels scope max_levels) (begun x r)) f → RefusedExpression scope x r f
refused_expression scope x r f h = record { refusal = h; none = first_fault scope max_levels (begun x r) (refusal_number f) h.rest h.is }

-- past the text nothing stands ahead
past_end : (t : List ℕ) (a : ℕ) (x : Stream) → length t < a → Streams t a x → x ≡ end (length t)
past_end t a (token l s x) h (e, n, more) =
    let p = n.after in
    let q = n.token.some_bytes in
    let w = n.token.within in
    absurd (let f : ⊥ = omega arith in f)
past_end t a (fault s) h n = let p = n.after in let w = n.within in absurd (let f : ⊥ = omega arith in f)
past_end t a (end n) h (none, is) = ap end is

nothing_there : (scope : Scope) (n m k : ℕ) → expression scope (levels scope n) (record { rest = end m; operands = 0; items = k }) ≡ refused 3 (end m)
unfolding chain factor atom
nothing_there scope n m k = refl

pub past_refused : (scope : Scope) (t : List ℕ) (r : Reader) (x : Stream) → length t < r.at → Streams t r.at x → RefusedExpression scope x r (Unwanted (length t))
past_refused scope t r x h s =
    refused_expression scope x r (Unwanted (length t))
    (let e = past_end t r.at x h s in
    record { rest = end (length t); is = ap (λ y. expression scope (levels scope max_levels) (begun y r)) e ∙ nothing_there scope max_levels (length t) r.counted; index = refl })

module _ (scope : Scope) (t : List ℕ) (r r1 : Reader) (x : Stream) (within : r.at ≤ length t) (s : Streams t r.at x) (at : r1.at ≡ r.at) (fresh : r1.operands ≡ 0) (counted : r1.counted ≡ r.counted) (written : r1.written ≡ r.written) (same : r1.items ≡ r.items) where
  starts : begun x r ≡ state t r1
  starts = λ i. record { rest = (sym (ahead_is t r.at x within s) ∙ ap (ahead t) (sym at)) i; operands = sym fresh i; items = sym counted i }

  took : (r2 : Reader) → Took t r1 (expression scope (levels scope max_levels) (state t r1)) r2 → TookExpression scope t x r r2
  took r2 h =
      let is : expression scope (levels scope max_levels) (begun x r) ≡ read h.tree (state t r2) = ap (expression scope (levels scope max_levels)) starts ∙ h.is in
      let g = sound_reading scope max_levels (begun x r) h.tree (state t r2) is in
      record {
        tree = h.tree;
        rest = ahead t r2.at;
        is = is;
        tokens = g.0;
        begins = g.1;
        derived = g.2;
        ahead = streams_ahead t r2.at h.within;
        within = h.within;
        wrote = h.wrote ∙ ap (λ l. l ++ items h.tree) (λ i. take (written i) (same i));
        beyond = λ i d l. h.beyond i d l ∙ ap (λ y. get_or y i d) same;
        counted = ap (λ y. y.items) g.3;
        even = omega (arith, h.even);
      }

  pub came_to : {U : Type 0} (o : Result U TextRefusal) (r2 : Reader) → Reads t r1 (expression scope (levels scope max_levels) (state t r1)) o r2 → CameTo scope t x r o r2
  came_to (Ok u) r2 h = took r2 h
  came_to (Err f) r2 h = refused_expression scope x r f (record { rest = h.rest; is = ap (expression scope (levels scope max_levels)) starts ∙ h.is; index = h.index })
