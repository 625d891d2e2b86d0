use Rattle.grammar.proofs.Exits.{exits}

pub ruleset key_exits = (exits)
