-- Which clause of the rule decides, and where; and the one right answer to the bytes of a certificate. Assumes nothing.
use Rattle.std.specs.Prelude.{◌≡◌, ℕ, ◌<◌, ◌⊎◌, List, ◌∷◌, ◌++◌, length, Some, None, Ok, Err, Result, slice_index}
use Rattle.std.specs.List.{ContainsAt as Has}
use Rattle.system.specs.Justice.{FairSystem}
use Rattle.rank.specs.Kinds.{Kind, kind_of}
use Rattle.rank_rule.specs.Certificate.{Certificate, Listed}
use Rattle.rank_rule.specs.Rule.{NoListedClashAt, SuccessorsListedAt, RowsExactAt, ClassesEnabledAt, RanksFallAt, MeetsRule}
use Rattle.certificate_theory.specs.declared.clause.Clause.{Clause}
use Rattle.certificate_theory.specs.declared.clause.Clause.TheVariants.{StartListed, NoListedClash, SuccessorsListed, RowsExact, ClassesEnabled, RanksFall}
use Rattle.certificate_theory.specs.declared.refusal.Refusal.{Refusal}
use Rattle.certificate_theory.specs.declared.refusal.Refusal.TheVariants.{Length, KindByte}
use Rattle.certificate_theory.specs.Refusals.{broken, order}
use Rattle.certificate_theory.specs.Reading.{Reads, ReadingRefused}
use Rattle.certificate_theory.specs.Content.{limits_of_lem, content}

-- The clause holds at the process p, the state s and the command k. Where it does not speak of one of them, that has
-- no part in it.
abbrev pub HoldsAt : Kind → FairSystem → Certificate → Clause → ℕ → ℕ → ℕ → Type 0
HoldsAt K S C StartListed p s k = s ≡ S.steps.start → Listed C s
HoldsAt K S C NoListedClash p s k = NoListedClashAt S C s
HoldsAt K S C SuccessorsListed p s k = SuccessorsListedAt S C s k
HoldsAt K S C RowsExact p s k = RowsExactAt S C p s
HoldsAt K S C ClassesEnabled p s k = ClassesEnabledAt S C p s
HoldsAt K S C RanksFall p s k = RanksFallAt K S C p s k

-- The clause holds at every process, state and command.
abbrev pub Holds : Kind → FairSystem → Certificate → Clause → Type 0
Holds K S C clause = (p s k : ℕ) → p < S.steps.processes → HoldsAt K S C clause p s k

-- The process q, the state t and the command l come before p, s and k: by process, then by state, then by command.
abbrev pub Before : ℕ → ℕ → ℕ → ℕ → ℕ → ℕ → Type 0
Before q t l p s k = (q < p) ⊎ ((q ≡ p) × ((t < s) ⊎ ((t ≡ s) × (l < k))))

-- e refuses the first clause of the order that does not hold, at the least process, then state, then command.
pub record RuleRefused (K : Kind) (S : FairSystem) (C : Certificate) (e : Refusal) : Type 0 where
  pub earlier : List Clause
  pub clause : Clause
  pub later : List Clause
  pub in_order : order ≡ earlier ++ (clause ∷ later)
  pub earlier_hold : (c : Clause) → Has earlier c → Holds K S C c
  pub process : ℕ
  pub state : ℕ
  pub command : ℕ
  pub process_below : process < S.steps.processes
  pub fails : ¬ HoldsAt K S C clause process state command
  pub least : (q t l : ℕ) → q < S.steps.processes → Before q t l process state command → HoldsAt K S C clause q t l
  pub refused : e ≡ broken clause process state command

-- The bytes read as a certificate of the kind K that meets the rule.
pub record Certifies (K : Kind) (S : FairSystem) (bytes : List ℕ) : Type 0 where
  pub reads : Reads (limits_of_lem K S) bytes
  pub meets_rule : MeetsRule K S (content (limits_of_lem K S) bytes)

-- The one right refusal: of reading; or the bytes read as a certificate, and it is the rule's.
abbrev pub Refused : Kind → FairSystem → List ℕ → Refusal → Type 0
Refused K S bytes e =
    ReadingRefused (limits_of_lem K S) bytes e
    ⊎ (Reads (limits_of_lem K S) bytes × RuleRefused K S (content (limits_of_lem K S) bytes) e)

-- The right answer to the bytes: acceptance, or the one right refusal.
abbrev pub Answered : {X : Type 0} → Kind → FairSystem → List ℕ → Result X Refusal → Type 0
Answered K S bytes (Ok x) = Certifies K S bytes
Answered K S bytes (Err e) = Refused K S bytes e

-- The right answer of the rule to a certificate that was read.
abbrev pub Judged : {X : Type 0} → Kind → FairSystem → Certificate → Result X Refusal → Type 0
Judged K S C (Ok x) = MeetsRule K S C
Judged K S C (Err e) = RuleRefused K S C e

-- The bytes certify the system, with ranks of the kind that their kind byte stands for.
pub record AcceptedCertificate (S : FairSystem) (bytes : List ℕ) : Type 0 where
  pub kind : Kind
  pub kind_byte : kind_of (slice_index bytes 0) ≡ Some kind
  pub certifies : Certifies kind S bytes

-- The one right refusal where the kind byte says the kind: it is missing; it stands for none; or it is the refusal of
-- that kind.
abbrev pub CertificateRefused : FairSystem → List ℕ → Refusal → Type 0
CertificateRefused S bytes e =
    ((length bytes ≡ 0) × (e ≡ Length 0))
    ⊎ (((0 < length bytes) × (kind_of (slice_index bytes 0) ≡ None) × (e ≡ KindByte))
    ⊎ ((0 < length bytes) × ((K : Kind) × (kind_of (slice_index bytes 0) ≡ Some K) × Refused K S bytes e)))

abbrev pub CertificateAnswered : {X : Type 0} → FairSystem → List ℕ → Result X Refusal → Type 0
CertificateAnswered S bytes (Ok x) = AcceptedCertificate S bytes
CertificateAnswered S bytes (Err e) = CertificateRefused S bytes e
