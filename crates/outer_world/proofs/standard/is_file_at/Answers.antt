use Rattle.std.proofs.Common.{ℕ, List, Bool, Result, Ok, Err, ◌≡◌, ◌⊎◌, ◌++◌, MatchResult, inr, refl, subst, rules}
use Rattle.std.specs.Fn.{FnReturnsAt}
use Rattle.std.specs.IoError.{error_kind}
use Rattle.std.specs.declared.fs.Metadata.{Metadata}
use Rattle.std.specs.declared.io.Error.{Error}
use Rattle.std.specs.declared.io.ErrorKind.TheVariants.{OutOfMemory}
use Rattle.std.proofs.lemmas.Fn.{says_at}
use Rattle.outer_world.specs.Entries.{TellsFile, TellsFault, MeansFile}
use Rattle.outer_world.proofs.standard.is_file_at.Goals as goal

told : (asked : List ℕ → Result Metadata Error → Type 0) (path : List ℕ) (answer : Result Metadata Error) → asked path answer
    → (is : Result Bool Error) → MeansFile answer is
    → MatchResult is (λ is. TellsFile asked path is) (λ error. (error_kind error ≡ OutOfMemory) ⊎ TellsFault asked path error)
told asked path answer a (Ok is) m = (answer, a, m)
told asked path answer a (Err error) m = inr (answer, a, m)

pub returns : goal.returns
returns g c =
    let path : c.as_str-2.result.now ≡ c.args.folder.now ++ c.args.name.now = search rules in
    subst (λ p. MatchResult c.is_of_file.result (λ is. TellsFile (FnReturnsAt g.F.Fn c.args.ask.now) p is)
    (λ error. (error_kind error ≡ OutOfMemory) ⊎ TellsFault (FnReturnsAt g.F.Fn c.args.ask.now) p error)) path
    (told (FnReturnsAt g.F.Fn c.args.ask.now) c.as_str-2.result.now c.ask.result (says_at g.F.Fn c.ask.ensures refl) c.is_of_file.result c.is_of_file.ensures)
