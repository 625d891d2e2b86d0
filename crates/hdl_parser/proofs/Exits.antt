use Rattle.grammar.proofs.Exits.{exits}

pub ruleset hdl_exits = (exits)
