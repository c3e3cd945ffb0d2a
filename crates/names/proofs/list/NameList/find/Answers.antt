use Rattle.std.proofs.Common.{◌≡◌, take, sym, ◌∙◌, rules}
use Rattle.std.specs.Str.{bytes_eq}
use Rattle.std.proofs.lemmas.Iterator.{YieldsList-from_slice}
use Rattle.std.proofs.lemmas.Iterator.Search.{position_from_yields_List}
use Rattle.names.specs.Listed.{listed, index_of}
use Rattle.names.proofs.list.NameList.find.Goals as goal
use Rattle.names.proofs.list.NameList.find.Goals.{After-position}
use Rattle.names.proofs.Listed.{index_is_position}
use borrow.Author.Tests.{tests}

found : (c : After-position) → c.position.result ≡ index_of (listed c.args.self.now) c.args.name.now
found c =
    let known = take c.args.self.now.count c.args.self.now.names in
    position_from_yields_List (λ p. bytes_eq p.now c.args.name.now) _ _ _ c.position.ensures.ran
    (YieldsList-from_slice known c.iter.ensures.rest) (λ x b q k. search (rules, tests))
    ∙ index_is_position known c.args.name.now

pub returns-in_err-place : goal.returns-in_err-place
returns-in_err-place c = c.from_residual.ensures ∙ sym c.in_err-place.was ∙ found (goal.at.returns-in_err-place c).After-position

pub returns : goal.returns
returns c = sym c.in_ok-place.was ∙ found (goal.at.returns c).After-position
