use Rattle.std.proofs.Common.{rules, ◌<◌, ◌+◌, ◌∙◌, sym, ap, arith, length, length-drop}
use Rattle.scan_text.specs.Blanks.{is_blank, blanks}
use Rattle.scan_text.proofs.Gone.{length-behind, over_by, run_over}
use Rattle.scan_text.proofs.Scan.skip_blank.Goals as goal

pub loop-next-smaller : goal.loop-next-smaller
loop-next-smaller c =
    let bs = c.loop-next.self.rest.now in
    let fits : c.in-Over.n < length bs = rw c.in-Over.is at c.loop-next.invariant.within in
    let left = c.take_while.ensures.left is_blank (λ b r lt h. search (rules, h)) in
    let shorter = length-behind is_blank c.skip.new.self.rest.now in
    rw (left) (omega (arith, fits, shorter, ap length c.skip.ensures.left, length-drop (c.in-Over.n + 1) bs))

pub loop-next-preserved : goal.loop-next-preserved
loop-next-preserved c =
    let before = c.skip.new.self in
    let left = c.take_while.ensures.left is_blank (λ b r lt h. search (rules, h)) in
    let place = c.take_while.ensures.place is_blank (λ b r lt h. search (rules, h)) in
    let next = sym c.loop-next.invariant.next ∙ c.in-Over.is in
    record {
      so_far =
          (λ i. blanks 0 (place i) (left i)) ∙ sym (run_over before.place before.rest.now)
          ∙ (λ i. blanks 0 (c.skip.ensures.place i) (c.skip.ensures.left i))
          ∙ sym (over_by c.loop-next.self.place c.loop-next.self.rest.now c.in-Over.n next) ∙ c.loop-next.invariant.so_far;
      next = c.blank_at-next-in-Over.ensures.value;
      within = c.blank_at-next-in-Over.ensures.within;
    }
