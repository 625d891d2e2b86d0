-- What is outside of a call, as far as it is known.
use Rattle.std.specs.Prelude.{ℕ, Bool, List, Option}
use Rattle.outer_world.specs.Files.{Files}
use Rattle.outer_world.specs.State.{ShelfState, SinkState}

pub record Outside : Type 1 where
  -- the files of the shelf, where they are known
  pub files : Option Files
  -- which folders are there
  pub there : List ℕ → Bool
  -- no call of the shelf is set up to fail
  pub unfailing : Type 0
  -- the bytes on out and on err, where they are known
  pub out : Option (List ℕ)
  pub err : Option (List ℕ)
  -- how often a call of the shelf, of out and of err has failed
  pub shelf_faults : ℕ
  pub out_faults : ℕ
  pub err_faults : ℕ

abbrev pub outside : ShelfState → ℕ → SinkState → SinkState → Outside
outside shelf shelf_faults out err = record {
  files = shelf.files;
  there = shelf.there;
  unfailing = shelf.unfailing;
  out = out.written;
  err = err.written;
  shelf_faults = shelf_faults;
  out_faults = out.faults;
  err_faults = err.faults;
}
