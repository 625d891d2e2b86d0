-- One machine does what another does, step by step: a lower machine makes each step of an upper one by several of its own.
use Rattle.std.specs.Prelude.{◌≡◌, ◌⊎◌, ℕ, ◌+◌, ◌≤◌, true, false, List, [], ◌++◌, Some, None}
use Rattle.simulation.specs.System.{System, IsData, IsKey, keys_heard}

module _ {U L : Type 0} (up : System U) (low : System L) where
  -- At each state on the way: the words are those of the upper state, and the point, where there is one, is its point.
  pub record Shows (u : U) (l : L) : Type 0 where
    pub words : (a : ℕ) → IsData a → low.word l a ≡ up.word u a
    pub point : (low.point l ≡ up.point u) ⊎ (low.point l ≡ None)
    pub fits : low.fits l ≡ true

  -- both have come to their end
  pub record Rests (u : U) (l : L) : Type 0 where
    pub shows : Shows u l
    pub upper : up.halted u ≡ true
    pub lower : low.halted l ≡ true

  -- The upper machine has not come to its end and has a step under no key: it goes astray. The lower one stands before the last step for
  -- it, which counts where the upper one's would, and no key is heard.
  pub record GoesAstray (u : U) (l : L) : Type 0 where
    pub shows : Shows u l
    pub commit : low.commits l ≡ up.commits u
    pub going : up.halted u ≡ false
    pub moving : low.halted l ≡ false
    pub deaf : (up.hears u ≡ false) × (low.hears l ≡ false)
    pub none : (key : ℕ) → IsKey key → up.step key u ≡ None

  -- The last of the lower steps that make one upper step. `pend` are the keys heard for it so far. Under each key the lower machine makes
  -- the last step, the upper one its step under the key that was heard. The two states that they lead to are related by R.
  pub record Lands (R : U → L → Type 0) (u : U) (pend : List ℕ) (l : L) : Type 0 where
    pub shows : Shows u l
    pub commit : low.commits l ≡ up.commits u
    pub going : up.halted u ≡ false
    pub moving : low.halted l ≡ false
    pub leads : (key : ℕ) → IsKey key → (k : ℕ) × IsKey k × (pend ++ keys_heard (low.hears l) key ≡ keys_heard (up.hears u) k) × (u' : U) × (up.step k u ≡ Some u') × (l' : L) × (low.step key l ≡ Some l') × R u' l'

  -- the three ends of a way: the lower machine makes the step of u, comes to its end with it, or goes astray with it
  pub data Ends (R : U → L → Type 0) (u : U) : List ℕ → L → Type 0 where
    lands : (pend : List ℕ) (l : L) → Lands R u pend l → Ends R u pend l
    rests : (l : L) → Rests u l → Ends R u [] l
    strays : (l : L) → GoesAstray u l → Ends R u [] l

-- `cost` is what a lower step costs; costs are counted in steps of the machine at the bottom.
module _ {U L : Type 0} (up : System U) (low : System L) (cost : L → ℕ) where
  -- From l, within a cost of n and whatever the keys, the lower machine comes by quiet steps, which don't count, to a last one. There
  -- End holds of the keys heard. At each state of these it shows u.
  pub data Along (u : U) (End : List ℕ → L → Type 0) : ℕ → List ℕ → L → Type 0 where
    last : (n : ℕ) (pend : List ℕ) (l : L) → End pend l → cost l ≤ n → Along u End n pend l
    onward : (n m : ℕ) (pend : List ℕ) (l : L) → Shows up low u l → low.commits l ≡ false → cost l + m ≤ n → (to : (key : ℕ) → IsKey key → L) → ((key : ℕ) (w : IsKey key) → low.step key l ≡ Some (to key w)) → ((key : ℕ) (w : IsKey key) → Along u End m (pend ++ keys_heard (low.hears l) key) (to key w)) → Along u End n pend l

module _ {U L : Type 0} (up : System U) (low : System L) (cost : L → ℕ) (R : U → L → Type 0) where
  -- a way of the lower machine that makes a step of the upper one
  abbrev pub Way : U → ℕ → List ℕ → L → Type 0
  Way u n pend l = Along up low cost u (Ends up low R u) n pend l

  -- The contract between two layers. Where the words in use leave room, related states have one point, and a step of the upper
  -- machine is a way of the lower one.
  pub record Simulates (bound : U → ℕ) : Type 0 where
    pub point : (u : U) (l : L) → R u l → up.fits u ≡ true → low.point l ≡ up.point u
    pub goes : (u : U) (l : L) → R u l → up.fits u ≡ true → Way u (bound u) [] l

  -- Within a cost of n the lower machine comes to a state that is related to u; until then nothing counts and nothing is heard.
  pub data Opens (u : U) : ℕ → L → Type 0 where
    ready : (n : ℕ) (l : L) → R u l → Opens u n l
    before : (n m : ℕ) (l : L) → Shows up low u l → low.commits l ≡ false → low.hears l ≡ false → cost l + m ≤ n → (to : (key : ℕ) → IsKey key → L) → ((key : ℕ) (w : IsKey key) → low.step key l ≡ Some (to key w)) → ((key : ℕ) (w : IsKey key) → Opens u m (to key w)) → Opens u n l

  -- the contract at the start
  pub record Starts (u : U) (n : ℕ) (l : L) : Type 0 where
    pub point : low.point l ≡ up.point u
    pub opens : Opens u n l

-- The states are related through one of the machine between.
abbrev pub Through : {U V L : Type 0} → (U → V → Type 0) → (V → L → Type 0) → U → L → Type 0
Through {U} {V} {L} R S u l = (v : V) × R u v × S v l
