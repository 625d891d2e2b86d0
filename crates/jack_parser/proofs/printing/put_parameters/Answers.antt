use Rattle.std.proofs.Common.{◌≡◌, ◌∷◌}
use Rattle.std.proofs.lemmas.List.{nil_from_length}
use Rattle.std.proofs.lemmas.Option.{MatchOption-at_none}
use Rattle.grammar.proofs.Shown.{shows_absent, shows_present, shows_both}
use Rattle.jack_parser.proofs.printing.put_parameters.Goals as goal

pub returns-in_default : goal.returns-in_default
returns-in_default g c = rw (nil_from_length c.args.all.now (MatchOption-at_none _ _ c.in_default.is c.split_first.ensures.cases)) shows_absent

pub returns : goal.returns
returns g c =
    let split : c.args.all.now ≡ c.in-Some.first.now ∷ c.in-Some.more.now = c.in-Some.ensures.cases.0 in
    rw split (shows_present (shows_both c.put_parameter-begun.ensures c.put_more_parameters.ensures))
