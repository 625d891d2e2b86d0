use Rattle.grammar.proofs.Exits.{exits}

pub ruleset vm_exits = (exits)
