use Rattle.grammar.proofs.Exits.{exits}

pub ruleset asm_exits = (exits)
