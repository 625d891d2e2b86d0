use Rattle.std.proofs.Common.{◌≡◌, ◌≤◌, ◌<◌, ◌⊎◌, inl, inr, ℕ, Bool, true, false, Some, length, get_or, refl, sym, subst, ◌∙◌, arith}
use Rattle.std.specs.Prelude.{slice_get}
use Rattle.std.proofs.lemmas.Option.{slice_get_read}
use Rattle.std.proofs.lemmas.Bool.Decides.{leb_tells}
use Rattle.hdl_check.specs.Whole.{chips_in}
use Rattle.hdl_loops.specs.Inner.Stacked.{parts_at}
use Rattle.hdl_loops.specs.declared.find.Frame.{Frame}
use Rattle.hdl_loops.proofs.Stacking.{alone_is, parts_there}
use Rattle.hdl_loops.proofs.find.is_last.Goals as goal

at_most : (b : Bool) (m n : ℕ) → ((b ≡ true) × (m ≤ n)) ⊎ ((b ≡ false) × (n < m)) → b ≡ true → m ≤ n
at_most b m n (inl h) e = h.1
at_most b m n (inr h) e = absurd (let no : true ≡ false = sym e ∙ h.0 in cc)

pub returns-then-frame-k : goal.returns-then-frame-k
returns-then-frame-k c = λ e.
    let es = c.args.entries.now in
    let chips = chips_in es c.args.memories in
    let d : Frame = record { chip = 0; next = 0; depth = 0 } in
    let f = get_or c.args.stack.now 0 d in
    let parts = c.parts_of.result.now in
    let there : slice_get es c.args.k ≡ Some c.index-entries-k.result = slice_get_read es (length es) c.args.k c.index-entries-k.result refl c.requires c.index-entries-k.is in
    let own : parts ≡ parts_at chips c.args.k = parts_there chips c.args.k c.index-entries-k.result parts there (c.parts_of.ensures es) in
    record {
      frame = f;
      alone = alone_is c.args.stack.now d (let one = c.if-stack-ne1.false in omega (arith, one));
      chip = c.if-frame-k.true;
      ended = subst (λ v. length v ≤ f.next) own (at_most _ (length parts) f.next (leb_tells (length parts) f.next) e);
    }
