use Rattle.nand_cli.proofs.soak.are_alike.Goals as goal

pub is_at_vm-requires-clause-built : goal.is_at_vm-requires-clause-built
is_at_vm-requires-clause-built c = (c.args.image, c.requires.image)
