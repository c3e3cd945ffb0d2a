-- The stream ahead, by the next token. Assumes nothing.
use Rattle.std.proofs.Common.{◌≡◌, ℕ, ◌+◌, ◌<◌, ◌≤◌, ◌⊎◌, List, [], length, Err, sym, refl, ap, ◌∙◌, inl, inr, add-zero, add-one, arith}
use Rattle.std.proofs.lemmas.Bool.{cases_lt}
use Rattle.std.proofs.lemmas.List.{drop_all}
use Rattle.lock_text.specs.Spelling.{Lexeme}
use Rattle.lock_text.specs.Tokens.{NextToken, NoToken, Misspelt, max_text}
use Rattle.lock_text.specs.Lexing.{Lexes}
use Rattle.lock_text.specs.Refusals.{refusal_index}
use Rattle.lock_text.specs.declared.refusal.TextRefusal.{TextRefusal}
use Rattle.lock_text.specs.declared.refusal.TextRefusal.TheVariants.{TooLong, Spelling, Unwanted, OutOfRange, Declared, Unknown, AssignedTwice, PastLimit, TooManyStates}
use Rattle.token_stream.specs.Streams.{Stream, token, fault, end, Streams}
use Rattle.token_stream.specs.Computed.{stream_from, run_length}
use Rattle.token_stream.proofs.Streaming.{streams_are_one, from}
use Rattle.expression_grammar.specs.Kinds.{Scope, kind, seen, place}
use Rattle.expression_grammar.specs.declared.kind.Kind.TheVariants.{Other, Misspelt as Wrong}
use Rattle.expression_reader.specs.Ahead.{ahead, Looked}
use Rattle.expression_grammar.specs.declared.kind.Kind.{Kind}
use Rattle.lock_text.specs.declared.token.Placed.{Placed}

pub streams_ahead : (t : List ℕ) (a : ℕ) → a ≤ length t → Streams t a (ahead t a)
unfolding ahead
streams_ahead t a h = from (length t + 1) t a h (omega arith)

pub ahead_is : (t : List ℕ) (a : ℕ) (x : Stream) → a ≤ length t → Streams t a x → ahead t a ≡ x
ahead_is t a x h s = streams_are_one t a (ahead t a) x (streams_ahead t a h) s

pub ahead_token : (t : List ℕ) (a : ℕ) (l : Lexeme) (s e : ℕ) → a ≤ length t → NextToken t a l s e → ahead t a ≡ token l s (ahead t e)
ahead_token t a l s e h n = ahead_is t a (token l s (ahead t e)) h (e, n, streams_ahead t e n.token.within)

pub ahead_fault : (t : List ℕ) (a s : ℕ) → a ≤ length t → Misspelt t a s → ahead t a ≡ fault s
ahead_fault t a s h n = ahead_is t a (fault s) h n

pub ahead_none : (t : List ℕ) (a : ℕ) → a ≤ length t → NoToken t a → ahead t a ≡ end (length t)
ahead_none t a h n = ahead_is t a (end (length t)) h (n, refl)

-- what the lexer answers is what stands ahead

pub lexer_fault : (t : List ℕ) (a : ℕ) (f : TextRefusal) → length t ≤ max_text → Lexes t a (Err f) → Misspelt t a (refusal_index f)
lexer_fault t a TooLong h l = absurd (let f : ⊥ = omega arith in f)
lexer_fault t a (Spelling s) h l = l.1
lexer_fault t a (Unwanted s) h l = absurd l
lexer_fault t a (OutOfRange s) h l = absurd l
lexer_fault t a (Declared s) h l = absurd l
lexer_fault t a (Unknown s) h l = absurd l
lexer_fault t a (AssignedTwice s) h l = absurd l
lexer_fault t a (PastLimit s) h l = absurd l
lexer_fault t a (TooManyStates s) h l = absurd l

-- past the end of the text nothing stands
ahead_past : (t : List ℕ) (a : ℕ) → length t ≤ a → ahead t a ≡ end a
unfolding ahead stream_from run_length
ahead_past t a h = ap (stream_from (length t + 1) a) (drop_all a t h) ∙ ap (λ n. stream_from n a []) (add-one (length t)) ∙ ap end (add-zero a)

module _ (scope : Scope) (t : List ℕ) (a : ℕ) (v : Placed Kind) where
  pub looked_token : (l : Lexeme) → NextToken t a l v.start v.end → v.token ≡ kind scope l → Looked scope t a v
  looked_token l n k =
      let start : a ≤ v.start = n.after in
      let more : v.start < v.end = n.token.some_bytes in
      let within : v.end ≤ length t = n.token.within in
      let p = ahead_token t a l v.start v.end (omega arith) n in
      record {
        kind = k ∙ sym (ap (seen scope) p);
        start = sym (ap place p);
        past = λ m s x q.
            let e : token l v.start (ahead t v.end) ≡ token m s x = sym p ∙ q in
            (n.token.within, cc);
      }

  ended : (m : ℕ) → ahead t a ≡ end m → v.token ≡ Other → v.start ≡ m → Looked scope t a v
  ended m p k s = record {
    kind = k ∙ sym (ap (seen scope) p);
    start = s ∙ sym (ap place p);
    past = λ l u x q. let z : ◌≡◌ {A = ℕ} 0 1 = cc in absurd (omega arith);
  }

  pub looked_none : NoToken t a → v.token ≡ Other → (a ≤ length t → v.start ≡ length t) → (length t ≤ a → v.start ≡ a) → Looked scope t a v
  looked_none n k inside past = by (cases_lt a (length t))
    where
      by : (a < length t) ⊎ (length t ≤ a) → Looked scope t a v
      by (inl h) = let w : a ≤ length t = omega arith in ended (length t) (ahead_none t a w n) k (inside w)
      by (inr h) = ended a (ahead_past t a h) k (past h)

  pub looked_fault : (s : ℕ) → Misspelt t a s → v.token ≡ Wrong → v.start ≡ s → Looked scope t a v
  looked_fault s n k e =
      let start : a ≤ s = n.after in
      let within : s < length t = n.within in
      let p = ahead_fault t a s (omega arith) n in
      record {
        kind = k ∙ sym (ap (seen scope) p);
        start = e ∙ sym (ap place p);
        past = λ m u x q. let z : ◌≡◌ {A = ℕ} 0 1 = cc in absurd (omega arith);
      }
