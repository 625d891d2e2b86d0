use Rattle.std.proofs.Common.{◌≡◌, ◌-◌, ℕ, None, Some, take, sym, ap, ◌∙◌, arith, lit<}
use Rattle.std.proofs.lemmas.Str.Pattern.{rfind_char}
use Rattle.tst_runner.proofs.Folders.{folder_before, no_folder}
use Rattle.tst_runner.proofs.files.folder_of.Goals as goal

pub returns-in-Some : goal.returns-in-Some
returns-in-Some c =
    let path = c.args.path.now in
    let last = rfind_char 47 path (Some c.in-Some.end) c.in-Some.ensures.cases (lit< tt) in
    let whole : c.in-Some.end - 0 ≡ c.in-Some.end = omega arith in
    c.range.ensures.value ∙ (ap (λ (n : ℕ). take n path) whole ∙ sym (folder_before path c.in-Some.end last.0 last.1 last.2))

pub returns-in-None : goal.returns-in-None
returns-in-None c = sym (no_folder c.args.path.now (rfind_char 47 c.args.path.now None c.in-None.ensures.cases (lit< tt)))
