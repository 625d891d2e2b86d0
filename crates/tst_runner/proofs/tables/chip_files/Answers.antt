use Rattle.std.proofs.Common.{◌≡◌, ◌<◌, ◌+◌, ◌++◌, [], ◌∷◌, ℕ, List, length, take, sym, ap, subst, ◌∙◌, arith}
use Rattle.std.proofs.lemmas.List.{take_more}
use Rattle.tst_runner.specs.Inner.Tables.{ListsFiles}
use Rattle.tst_runner.proofs.Tabling.{no_files}
use Rattle.tst_runner.proofs.tables.chip_files.Goals as goal

pub loop-file-init : goal.loop-file-init
loop-file-init c = no_files c.new-files.result c.new-files.ensures

pub loop-file-preserved : goal.loop-file-preserved
loop-file-preserved c =
    let names = c.args.names.now in
    let k = c.loop-file.file-index in
    let file = c.file-item.result in
    let lt : c.loop-file.file-index < length c.args.names.now = omega arith in
    let more : take (k + 1) names ≡ take k names ++ file ∷ [] = take_more names k file lt ∙ ap (λ (n : List ℕ). take k names ++ n ∷ []) (sym c.file-item.is) in
    subst (λ (ns : List (List ℕ)). ListsFiles ns c.enter_file.new.files) (sym more) (c.in_ok-enter_file.ensures (take k names) c.loop-file.invariant)
