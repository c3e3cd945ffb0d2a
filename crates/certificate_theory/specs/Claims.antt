-- What holds of answers. Assumes nothing.
use Rattle.std.specs.Prelude.{◌≡◌, ℕ, List}
use Rattle.byte_numbers.specs.Numbers.{Bytes}
use Rattle.system.specs.Justice.{FairSystem, Lawful, CorrectLock}
use Rattle.rank.specs.Kinds.{Kind}
use Rattle.rank.specs.Laws.{LawfulKind}
use Rattle.certificate_theory.specs.declared.refusal.Refusal.{Refusal}
use Rattle.certificate_theory.specs.declared.limits.Limits.{Limits}
use Rattle.certificate_theory.specs.Reading.{Reads}
use Rattle.certificate_theory.specs.Content.{content}
use Rattle.certificate_theory.specs.Encoding.{certificate_bytes}
use Rattle.certificate_theory.specs.Judging.{Certifies, Refused}

-- At most one refusal is right.
abbrev pub OneRefusal : Type 0
OneRefusal = (K : Kind) (S : FairSystem) (bytes : List ℕ) (d e : Refusal) → Refused K S bytes d → Refused K S bytes e → d ≡ e

-- Bytes that certify a system are not refused.
abbrev pub AcceptedOrRefused : Type 0
AcceptedOrRefused = (K : Kind) (S : FairSystem) → Lawful S → (bytes : List ℕ) (e : Refusal) → Certifies K S bytes → ¬ Refused K S bytes e

-- For every lawful system and every kind of rank with its laws, bytes that certify it show the lock correct.
abbrev pub CertifiedIsCorrect : Type 0
CertifiedIsCorrect = (K : Kind) → LawfulKind K → (S : FairSystem) → Lawful S → (bytes : List ℕ) → Certifies K S bytes → CorrectLock S

-- Bytes that read as a certificate are the bytes of what they say.
abbrev pub ReadIsWritten : Type 0
ReadIsWritten = (L : Limits) (bytes : List ℕ) → Bytes bytes → Reads L bytes → certificate_bytes L.kind (content L bytes) ≡ bytes
