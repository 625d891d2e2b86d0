-- After a commit the words show the view of the meaning's state.
use Rattle.std.proofs.Common.{◌+◌}
use Rattle.std.proofs.lemmas.Bool.{leb-true}
use Rattle.jack_meaning.specs.StackWords.{stack_words}
use Rattle.vm_debug.proofs.Meant.{view_of}
use Rattle.debug_laws.specs.Debugged.{DebuggedLaw, DebuggedProgramLaw}
use Rattle.tower.proofs.Headline.{behind}

pub debugged : DebuggedLaw
debugged program linked is imaged image map translated places index are keys words n now tame =
    let b = behind program is.numbers linked is.depth is.most_locals image map is.fits is.code translated keys words n now tame in
    record {
      after = b.after;
      run = b.run;
      shows = λ f g below sub e there names statics.
          view_of.view_of program linked is places index b.after.state b.between _ f g below sub imaged are b.matches b.stands e (leb-true (stack_words b.after.state.frames + 8) 1792 b.fits) there names statics;
    }

pub debugged_program : DebuggedProgramLaw
debugged_program program linked is imaged image map translated places are keys words n now tame =
    let d = debugged program linked is imaged image map translated places (λ g. g) are.image keys words n now tame in
    record {
      after = d.after;
      run = d.run;
      shows = λ f g below sub e there. d.shows f g below sub e there (are.names f.subroutine sub there) (are.statics f.subroutine sub there);
    }
