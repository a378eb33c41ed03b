use Rattle.std.proofs.Common.{rules, ◌≡◌, true, sym, ◌∙◌}
use Rattle.std.proofs.lemmas.Iterator.{YieldsList-from_slice}
use Rattle.std.proofs.lemmas.Iterator.Search.{all_from_yields_List}
use Rattle.meaning.specs.Sets.{inside, upto}
use Rattle.flow.proofs.Names.{names_only}
use Rattle.flow.proofs.legal.owned.Goals as goal

pub returns-then-among : goal.returns-then-among
returns-then-among c =
    let h : c.all.result ≡ names_only c.args.rows.now c.args.n =
    all_from_yields_List (λ s. inside s (upto c.args.n)) _ _ _ c.all.ensures.ran (YieldsList-from_slice c.args.rows.now cc)
    (λ x b q k. search rules) in
    let t : inside c.args.own (upto c.args.n) ≡ true = rw c.from.ensures at (sym c.among.ensures ∙ c.if-among.true) in
    rw t h
