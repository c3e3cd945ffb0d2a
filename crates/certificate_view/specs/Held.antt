-- The certificate that a view holds, and where its rows are. Assumes nothing.
use Rattle.std.specs.Prelude.{ℕ, ◌+◌, ◌*◌, ◌≤◌, length, Some, None, Option}
use Rattle.rank_rule.specs.Certificate.{Certificate, HasRow}
use Rattle.certificate_theory.specs.Content.{content, row_at}
use Rattle.certificate_theory.specs.Points.{OnlyRow}
use Rattle.certificate_view.specs.declared.view.View.{View}

abbrev pub certificate_of : View → Certificate
certificate_of v = content v.limits v.bytes.now

-- The row that begins at the index told is whole, and the one of p at s; or there is none.
abbrev pub RowPlace : View → ℕ → ℕ → Option ℕ → Type 0
RowPlace v p s (Some at) =
    (at + (5 + 4 * v.limits.numbers) ≤ length v.bytes.now)
    × OnlyRow (certificate_of v) p s (row_at v.limits.numbers v.bytes.now at)
RowPlace v p s None = ¬ HasRow (certificate_of v) p s
