use Rattle.nand_cli.proofs.command.answer_file.Goals as goal

pub returns-in-Asm-clause-does : goal.returns-in-Asm-clause-does
returns-in-Asm-clause-does g c = rw c.in-Asm.is c.answer_asm.ensures.does

pub returns-in-Exec-clause-does : goal.returns-in-Exec-clause-does
returns-in-Exec-clause-does g c = rw c.in-Exec.is c.answer_exec.ensures.does

pub returns-in-Show-clause-does : goal.returns-in-Show-clause-does
returns-in-Show-clause-does g c = rw c.in-Show.is c.answer_show.ensures.does
