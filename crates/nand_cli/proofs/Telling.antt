-- What a call promises after a failure, where words are no line, and where all is done.
use Rattle.std.proofs.Common.{◌≡◌, ◌++◌, ℕ, List, [], Result, Ok, Err, refl, sym, ◌∙◌, subst, inl, inr, take}
use Rattle.outer_world.specs.Texts.{read_fault_line, usage_line, want_of_memory_line}
use Rattle.outer_world.specs.Faults.{Rose}
use Rattle.outer_world.specs.Written.{Got}
use Rattle.outer_world.specs.declared.sink.Put.TheVariants as put
use Rattle.outer_world.proofs.Passing.{Got-nothing, Got-then}
use Rattle.command_line.specs.Line.{Line, IsLine, IsNoLine, IsNoTest, chip, of_classes, of_file, soak, test, vm}
use Rattle.command_line.specs.declared.reader.LineError.{LineError}
use Rattle.command_line.specs.declared.reader.LineError.TheVariants as no_line
use Rattle.tst_runner.specs.Verdicts.{difference_line}
use Rattle.source_files.specs.Loads.{line_of}
use Rattle.source_files.specs.declared.error.LoadError.TheVariants as errors
use Rattle.outer_world.specs.State.{SinkState, shelf_state, sink_state}
use Rattle.nand_cli.specs.Answer.{Answers, Causes, Promises}
use Rattle.nand_cli.specs.Outside.{Outside}
use Rattle.nand_cli.specs.Inner.Parts.{Counts, CountsLine, CountsTest, Does, TellsFailure, TellsNoLine}
use Rattle.nand_cli.specs.declared.command.Status.{Status}
use Rattle.nand_cli.specs.declared.command.Status.TheVariants as status
use Rattle.nand_cli.specs.declared.failure.Failure.{Failure}
use Rattle.nand_cli.specs.declared.failure.Failure.TheVariants as failure

-- what out and err are
abbrev out_of : Outside → SinkState
out_of outside = sink_state outside.out outside.out_faults

abbrev err_of : Outside → SinkState
err_of outside = sink_state outside.err outside.err_faults

-- ---- words that are no line

no_line_answers : (words : List (List ℕ)) (before after : Outside) (error : LineError) (s : Status) → (error ≡ no_line.Usage → IsNoLine words) → after.out ≡ before.out → after.out_faults ≡ before.out_faults → after.shelf_faults ≡ before.shelf_faults
    → TellsNoLine error (err_of before) (err_of after) s → Answers words before after s
no_line_answers words before after no_line.Usage s none out quiet shelf (put.Done, said, e) =
    rw e ([], usage_line, inl (none refl, refl, refl), rw out (Got-nothing before.out), said.bytes)
no_line_answers words before after no_line.Usage s none out quiet shelf (put.Failed, said, e) =
    rw e (inl (status.Usage, usage_line, (none refl, refl, refl), rw out (Got-nothing before.out), quiet, said.bytes, said.counts.0, shelf))
no_line_answers words before after no_line.Memory s none out quiet shelf (put.Done, said, e) =
    rw e ([], want_of_memory_line, inl (refl, refl), rw out (Got-nothing before.out), said.bytes)
no_line_answers words before after no_line.Memory s none out quiet shelf (put.Failed, said, e) =
    rw e (inl (status.NoMemory, want_of_memory_line, (refl, refl), rw out (Got-nothing before.out), quiet, said.bytes, said.counts.0, shelf))

no_line_causes : (before after : Outside) (error : LineError) (s : Status) → after.shelf_faults ≡ before.shelf_faults → after.out_faults ≡ before.out_faults
    → TellsNoLine error (err_of before) (err_of after) s → Causes before after s
no_line_causes before after no_line.Usage s shelf out (put.Done, said, e) = rw e (shelf, out, said.counts)
no_line_causes before after no_line.Usage s shelf out (put.Failed, said, e) = rw e (inr said.counts.0, inl shelf)
no_line_causes before after no_line.Memory s shelf out (put.Done, said, e) = rw e (shelf, out, said.counts)
no_line_causes before after no_line.Memory s shelf out (put.Failed, said, e) = rw e (inr said.counts.0, inl shelf)

pub not_read : (words : List (List ℕ)) (before after : Outside) (error : LineError) (s : Status) → (error ≡ no_line.Usage → IsNoLine words) → after.files ≡ before.files → after.there ≡ before.there → (before.unfailing → after.unfailing) → after.out ≡ before.out
    → after.shelf_faults ≡ before.shelf_faults → after.out_faults ≡ before.out_faults → TellsNoLine error (err_of before) (err_of after) s → Promises words before after s
not_read words before after error s none kept stays honest out shelf quiet tells = record {
  answers = no_line_answers words before after error s none out quiet shelf tells;
  causes = no_line_causes before after error s shelf quiet tells;
  kept = kept;
  stays = stays;
  honest = honest;
}

-- ---- the counts of any line, as those of `test`, of which less is said

module _ (shelf shelf' : ℕ) (out out' err err' : SinkState) where
  wider : (result : Result (Unit {0}) Failure) → Counts shelf shelf' out out' err err' result → CountsTest shelf shelf' out out' err err' result
  wider (Ok u) h = h
  wider (Err (failure.Unloaded (errors.Refused r))) h = h
  wider (Err (failure.Unloaded errors.Failed)) h = h
  wider (Err (failure.Unloaded errors.Memory)) h = h
  wider (Err (failure.Differs d)) h = h
  wider (Err failure.Out) (a, b, c) = (inl a, b, c)
  wider (Err failure.Echo) h = h

  any_counts : (line : Line) (result : Result (Unit {0}) Failure) → CountsLine line shelf shelf' out out' err err' result → CountsTest shelf shelf' out out' err err' result
  any_counts (of_classes source work) result h = wider result h
  any_counts (of_file path work) result h = wider result h
  any_counts (vm folder bare) result h = wider result h
  any_counts (chip name) result h = wider result h
  any_counts (test path gates simplify) result h = h
  any_counts (soak seed count) result h = wider result h

  before_out : (line : Line) → CountsLine line shelf shelf' out out' err err' (Err failure.Out) → IsNoTest line → shelf' ≡ shelf
  before_out (of_classes source work) h other = h.0
  before_out (of_file path work) h other = h.0
  before_out (vm folder bare) h other = h.0
  before_out (chip name) h other = h.0
  before_out (test path gates simplify) h other = absurd other
  before_out (soak seed count) h other = h.0

-- ---- a line that is not done; the bytes and the count of faults of err are known before its line
-- too

module _ (words : List (List ℕ)) (before after : Outside) (line : Line) (is_line : IsLine words line) (mid : SinkState) where
  failure_answers : (why : Failure) (s : Status) → Does (shelf_state before.files before.there before.unfailing) line (out_of before) (out_of after) (err_of before) mid (Err why)
      → CountsTest before.shelf_faults after.shelf_faults (out_of before) (out_of after) (err_of before) mid (Err why)
      → (why ≡ failure.Out → IsNoTest line → after.shelf_faults ≡ before.shelf_faults)
      → TellsFailure why mid (err_of after) s → Answers words before after s
  failure_answers (failure.Unloaded (errors.Refused r)) s (o, e, ends, got, there) (a, b, c) unread (put.Done, said, so) =
      rw so (o, e ++ (line_of r), inr (line, is_line, (e, (line_of r), ends, refl)), got, Got-then before.err mid.written after.err e (line_of r) there said.bytes)
  failure_answers (failure.Unloaded (errors.Refused r)) s (o, e, ends, got, there) (a, b, c) unread (put.Failed, said, so) =
      rw so (inr (
        line,
        is_line,
        inr (inr (
          status.Refused,
          o,
          e,
          (line_of r),
          said.bytes.0,
          ends,
          got,
          b,
          Got-then before.err mid.written after.err e (take said.bytes.0 (line_of r)) there said.bytes.1,
          subst (λ n. Rose n after.err_faults) c said.counts.0,
          a,
        )),
      ))
  failure_answers (failure.Unloaded errors.Failed) s (o, e, ends, got, there) (a, b, c) unread (put.Done, said, so) =
      rw so (o, e ++ read_fault_line, inr (line, is_line, (e, read_fault_line, (ends, refl), refl)), got, Got-then before.err mid.written after.err e read_fault_line there said.bytes)
  failure_answers (failure.Unloaded errors.Failed) s (o, e, ends, got, there) (a, b, c) unread (put.Failed, said, so) =
      rw so (inr (
        line,
        is_line,
        inr (inr (
          status.ReadFault,
          o,
          e,
          read_fault_line,
          said.bytes.0,
          (ends, refl),
          got,
          b,
          Got-then before.err mid.written after.err e (take said.bytes.0 read_fault_line) there said.bytes.1,
          subst (λ n. Rose n after.err_faults) c said.counts.0,
          a,
        )),
      ))
  failure_answers (failure.Unloaded errors.Memory) s (o, e, ends, got, there) (a, b, c) unread (put.Done, said, so) =
      rw so (o, e ++ want_of_memory_line, inr (line, is_line, (e, want_of_memory_line, (ends, refl), refl)), got, Got-then before.err mid.written after.err e want_of_memory_line there said.bytes)
  failure_answers (failure.Unloaded errors.Memory) s (o, e, ends, got, there) (a, b, c) unread (put.Failed, said, so) =
      rw so (inr (
        line,
        is_line,
        inr (inr (
          status.NoMemory,
          o,
          e,
          want_of_memory_line,
          said.bytes.0,
          (ends, refl),
          got,
          b,
          Got-then before.err mid.written after.err e (take said.bytes.0 want_of_memory_line) there said.bytes.1,
          subst (λ n. Rose n after.err_faults) c said.counts.0,
          a,
        )),
      ))
  failure_answers (failure.Differs d) s (o, e, ends, got, there) (a, b, c) unread (put.Done, said, so) =
      rw so (o, e ++ (difference_line d), inr (line, is_line, (e, (difference_line d), ends, refl)), got, Got-then before.err mid.written after.err e (difference_line d) there said.bytes)
  failure_answers (failure.Differs d) s (o, e, ends, got, there) (a, b, c) unread (put.Failed, said, so) =
      rw so (inr (
        line,
        is_line,
        inr (inr (
          status.Differs,
          o,
          e,
          (difference_line d),
          said.bytes.0,
          ends,
          got,
          b,
          Got-then before.err mid.written after.err e (take said.bytes.0 (difference_line d)) there said.bytes.1,
          subst (λ n. Rose n after.err_faults) c said.counts.0,
          a,
        )),
      ))
  failure_answers failure.Out s (o, e, cut, got, there) (a, rose, c) unread (so, counts, same) =
      rw so (inr (line, is_line, inl (o, e, cut, got, subst (λ w. Got before.err w e) (sym same) there, rose, counts ∙ c, unread refl)))
  failure_answers failure.Echo s (o, e, cut, got, there) (a, b, rose) unread (so, counts, same) =
      rw so (inr (line, is_line, inr (inl (o, e, cut, got, subst (λ w. Got before.err w e) (sym same) there, b, subst (λ n. Rose before.err_faults n) (sym counts) rose, a))))

  failure_causes : (why : Failure) (s : Status) → CountsTest before.shelf_faults after.shelf_faults (out_of before) (out_of after) (err_of before) mid (Err why)
      → TellsFailure why mid (err_of after) s → Causes before after s
  failure_causes (failure.Unloaded (errors.Refused r)) s (a, b, c) (put.Done, said, so) = rw so (a, b, said.counts ∙ c)
  failure_causes (failure.Unloaded (errors.Refused r)) s (a, b, c) (put.Failed, said, so) = rw so (inr (subst (λ n. Rose n after.err_faults) c said.counts.0), inl a)
  failure_causes (failure.Unloaded errors.Failed) s (a, b, c) (put.Done, said, so) = rw so (a, b, said.counts ∙ c)
  failure_causes (failure.Unloaded errors.Failed) s (a, b, c) (put.Failed, said, so) = rw so (inr (subst (λ n. Rose n after.err_faults) c said.counts.0), inr a)
  failure_causes (failure.Unloaded errors.Memory) s (a, b, c) (put.Done, said, so) = rw so (a, b, said.counts ∙ c)
  failure_causes (failure.Unloaded errors.Memory) s (a, b, c) (put.Failed, said, so) = rw so (inr (subst (λ n. Rose n after.err_faults) c said.counts.0), inl a)
  failure_causes (failure.Differs d) s (a, b, c) (put.Done, said, so) = rw so (a, b, said.counts ∙ c)
  failure_causes (failure.Differs d) s (a, b, c) (put.Failed, said, so) = rw so (inr (subst (λ n. Rose n after.err_faults) c said.counts.0), inl a)
  failure_causes failure.Out s (a, rose, c) (so, counts, same) = rw so (inl rose, a)
  failure_causes failure.Echo s (a, b, rose) (so, counts, same) = rw so (inr (subst (λ n. Rose before.err_faults n) (sym counts) rose), inl a)

  pub failed : (why : Failure) (s : Status) → after.files ≡ before.files → after.there ≡ before.there → (before.unfailing → after.unfailing) → Does (shelf_state before.files before.there before.unfailing) line (out_of before) (out_of after) (err_of before) mid (Err why)
      → CountsLine line before.shelf_faults after.shelf_faults (out_of before) (out_of after) (err_of before) mid (Err why)
      → TellsFailure why mid (err_of after) s → Promises words before after s
  failed why s kept stays honest does counts tells = record {
    answers =
        let Said : Failure → Type 0 = λ w. CountsLine line before.shelf_faults after.shelf_faults (out_of before) (out_of after) (err_of before) mid (Err w) in
        let all = any_counts before.shelf_faults after.shelf_faults (out_of before) (out_of after) (err_of before) mid line (Err why) counts in
        failure_answers why s does all
        (λ is. before_out before.shelf_faults after.shelf_faults (out_of before) (out_of after) (err_of before) mid line (subst Said is counts)) tells;
    causes = failure_causes why s (any_counts before.shelf_faults after.shelf_faults (out_of before) (out_of after) (err_of before) mid line (Err why) counts) tells;
    kept = kept;
    stays = stays;
    honest = honest;
  }

-- ---- a line that is done

pub done : (words : List (List ℕ)) (before after : Outside) (line : Line) → IsLine words line → after.files ≡ before.files → after.there ≡ before.there → (before.unfailing → after.unfailing)
    → Does (shelf_state before.files before.there before.unfailing) line (out_of before) (out_of after) (err_of before) (err_of after) (Ok tt)
    → CountsLine line before.shelf_faults after.shelf_faults (out_of before) (out_of after) (err_of before) (err_of after) (Ok tt) → Promises words before after status.Done
done words before after line is_line kept stays honest (o, e, prints, out, err) counts = record {
  answers = (o, e, inr (line, is_line, prints), out, err);
  causes = any_counts before.shelf_faults after.shelf_faults (out_of before) (out_of after) (err_of before) (err_of after) line (Ok tt) counts;
  kept = kept;
  stays = stays;
  honest = honest;
}
