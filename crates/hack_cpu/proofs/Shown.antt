-- No shipped chip has a fault or a loop, by computation.
use Rattle.std.proofs.Common.{◌≡◌, ℕ, Bool, true, false, List, [], ◌∷◌, ◌++◌, refl}
use Rattle.std.specs.Prelude.{◌&&◌}
use Rattle.hdl_tree.specs.declared.library.Entry.{Entry}
use Rattle.hdl_tree.specs.declared.ends.Memories.{Memories}
use Rattle.hdl_tree.specs.declared.ends.Memories.TheVariants.{Blocks, Gates}
use Rattle.hdl_tree.specs.Writable.{all}
use Rattle.hdl_check.specs.Whole.{chips_in}
use Rattle.hdl_behaviours.specs.Clean.{is_clean, AreClean}
use Rattle.hdl_behaviours.specs.Levels.{Level, pairs_of, is_levelled, AreLevelled}
use Rattle.hdl_behaviours.proofs.Clean.{clean_faultless}
use Rattle.hdl_behaviours.proofs.Levels.{all_at, loopless}
use Rattle.hdl_behaviours.proofs.Swept.{swept}
use Rattle.hack_cpu.specs.Library.{shipped_chips, basic_chips, computing_chips, memory_chips, computer_chips}
use Rattle.hack_cpu.specs.Dependencies.{dependencies, FaultlessLaw, LooplessLaw}
use Rattle.hack_cpu.proofs.Opened.{opened}

more : (b c d : Bool) → (b && c) ≡ true → (c ≡ true → d ≡ true) → (b && d) ≡ true
more true c d h go = go h
more false c d h go = absurd cc

all-append : {X : Type 0} (test : X → Bool) (xs ys : List X) → all test xs ≡ true → all test ys ≡ true → all test (xs ++ ys) ≡ true
all-append test [] ys h g = g
all-append test (x ∷ xs) ys h g = more (test x) (all test xs) (all test (xs ++ ys)) h (λ e. all-append test xs ys e g)

-- ---- no fault

basic_clean : (memories : Memories) → all (is_clean (chips_in shipped_chips memories)) basic_chips ≡ true
unfolding opened
basic_clean memories = refl

computing_clean : (memories : Memories) → all (is_clean (chips_in shipped_chips memories)) computing_chips ≡ true
unfolding opened
computing_clean memories = refl

memory_clean : (memories : Memories) → all (is_clean (chips_in shipped_chips memories)) memory_chips ≡ true
unfolding opened
memory_clean Blocks = refl
memory_clean Gates = refl

computer_clean : (memories : Memories) → all (is_clean (chips_in shipped_chips memories)) computer_chips ≡ true
unfolding opened
computer_clean memories = refl

pub clean : (memories : Memories) → AreClean (chips_in shipped_chips memories)
unfolding shipped_chips
clean memories =
    all_at (is_clean (chips_in shipped_chips memories)) (basic_chips ++ (computing_chips ++ (memory_chips ++ computer_chips)))
    (all-append (is_clean (chips_in shipped_chips memories)) basic_chips (computing_chips ++ (memory_chips ++ computer_chips)) (basic_clean memories)
    (all-append (is_clean (chips_in shipped_chips memories)) computing_chips (memory_chips ++ computer_chips) (computing_clean memories) (all-append (is_clean (chips_in shipped_chips memories)) memory_chips computer_chips (memory_clean memories) (computer_clean memories))))

pub no_fault : FaultlessLaw
no_fault memories = clean_faultless (chips_in shipped_chips memories) (clean memories)

-- ---- no loop

-- three sweeps raise the nets of each chip into order
abbrev levels_of : Memories → Entry → List (List ℕ × Level)
levels_of memories entry = swept 3 (chips_in shipped_chips memories) (pairs_of dependencies) entry

abbrev is_shown : Memories → Entry → Bool
is_shown memories entry = is_levelled (chips_in shipped_chips memories) (pairs_of dependencies) (levels_of memories entry) entry

basic_shown : (memories : Memories) → all (is_shown memories) basic_chips ≡ true
unfolding opened
basic_shown memories = refl

computing_shown : (memories : Memories) → all (is_shown memories) computing_chips ≡ true
unfolding opened
computing_shown memories = refl

memory_shown : (memories : Memories) → all (is_shown memories) memory_chips ≡ true
unfolding opened
memory_shown Blocks = refl
memory_shown Gates = refl

computer_shown : (memories : Memories) → all (is_shown memories) computer_chips ≡ true
unfolding opened
computer_shown memories = refl

levelled : (memories : Memories) → AreLevelled (chips_in shipped_chips memories) (pairs_of dependencies) (levels_of memories)
unfolding shipped_chips
levelled memories =
    all_at (is_shown memories) (basic_chips ++ (computing_chips ++ (memory_chips ++ computer_chips)))
    (all-append (is_shown memories) basic_chips (computing_chips ++ (memory_chips ++ computer_chips)) (basic_shown memories)
    (all-append (is_shown memories) computing_chips (memory_chips ++ computer_chips) (computing_shown memories) (all-append (is_shown memories) memory_chips computer_chips (memory_shown memories) (computer_shown memories))))

pub no_loop : LooplessLaw
no_loop memories = loopless (chips_in shipped_chips memories) (pairs_of dependencies) (levels_of memories) (clean memories) (levelled memories)
