-- A text of more than 1,048,576 bytes is refused, without a place.
use Rattle.std.specs.Prelude.{◌<◌, ℕ, Bool, List, length, refl}
use Rattle.grammar.specs.Cutting.{too_long}
use Rattle.source_files.specs.Inner.Long.{refused_long}
use Rattle.source_files.specs.Sources.{past_limit}
use Rattle.vm_parser.specs.Grammar.{greatest, vm, whole}
use Rattle.vm_parser.specs.Language.{RefusesVm}
use Rattle.vm_parser.specs.Tokens.{finish}

pub vm_limited : (bare : Bool) (text : List ℕ) → 1048576 < length text → RefusesVm bare text past_limit
vm_limited bare text long = (too_long, refused_long (vm (finish text)) (whole bare) greatest _ text long, refl)
