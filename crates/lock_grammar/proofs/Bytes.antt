-- Texts by their bytes: the tokens of a text are those of its stream. Assumes nothing.
use Rattle.std.proofs.Common.{◌≡◌, ℕ, List, [], ◌∷◌, length, sym, refl, subst}
use Rattle.lock_text.specs.Spelling.{Lexeme}
use Rattle.lock_text.specs.Tokens.{NoToken, TokensTo}
use Rattle.token_stream.specs.Streams.{Stream, token, end, Streams}
use Rattle.token_stream.specs.Computed.{stream_of}
use Rattle.token_stream.proofs.Streaming.{streams_are_one, stream_of_text}
use Rattle.expression_grammar.specs.Laws.{Begins}
use Rattle.lock_grammar.specs.Laws.{ReadExactly}
use Rattle.lock_grammar.proofs.Texts.{sound_texts, complete_texts}

tokens_of_stream : (t : List ℕ) (a : ℕ) (x : Stream) (ls : List Lexeme) (n : ℕ) → Streams t a x → Begins x ls (end n) → (e : ℕ) × TokensTo t a ls e × NoToken t e
tokens_of_stream t a x [] n s b = (a, refl, (subst (λ (y : Stream). Streams t a y) b s).0)
tokens_of_stream t a x (l ∷ ls) n s (i, z, e, b) =
    let r : Streams t a (token l i z) = subst (λ (y : Stream). Streams t a y) e s in
    let q = tokens_of_stream t r.0 z ls n r.2 b in
    (q.0, (i, r.0, r.1, q.1), q.2)

stream_of_tokens : (t : List ℕ) (a : ℕ) (ls : List Lexeme) (e : ℕ) → TokensTo t a ls e → NoToken t e → (x : Stream) × Streams t a x × Begins x ls (end (length t))
stream_of_tokens t a [] e p n = (end (length t), (subst (λ (i : ℕ). NoToken t i) (sym p) n, refl), refl)
stream_of_tokens t a (l ∷ ls) e (s, m, h, r) n =
    let q = stream_of_tokens t m ls e r n in
    (token l s q.0, (m, h, q.1), (s, q.0, refl, q.2))

pub read_exactly : ReadExactly
read_exactly t p = (
  λ h.
      let m = sound_texts (stream_of t) p h in
      let q = tokens_of_stream t 0 (stream_of t) m.0 m.1 (stream_of_text t) m.2 in
      (m.0, (q.0, q.1, q.2), m.3),
  λ h.
      let q = stream_of_tokens t 0 h.0 h.1.0 h.1.1 h.1.2 in
      let same : q.0 ≡ stream_of t = streams_are_one t 0 q.0 (stream_of t) q.1 (stream_of_text t) in
      complete_texts (stream_of t) p (h.0, length t, subst (λ (y : Stream). Begins y h.0 (end (length t))) same q.2, h.2),
)
