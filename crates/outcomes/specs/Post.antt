-- What an evaluator promises: whatever frames wait below, the machine of the rules goes the way that the evaluator went.
use Rattle.std.specs.Prelude.{ℕ, ◌≤◌, ◌<◌, ◌≡◌, List, [], ◌++◌, length, Ok}
use Rattle.packed.specs.declared.layout.Header.{Header}
use Rattle.image.specs.Load.{load_of}
use Rattle.rules.specs.declared.Refusal.{Refusal}
use Rattle.rules.specs.Store.{Store, most_text}
use Rattle.rules.specs.Machine.{Ctl, ret, brk, Frame, Cfg, going, stop, cost, takes_at}
use Rattle.rules.specs.Go.{Go}
use Rattle.stores.specs.Stores.{store_of, takes_of, Fits}
use Rattle.outcomes.specs.declared.Outcome.{Outcome}
use Rattle.outcomes.specs.declared.Outcome.TheVariants.{Done, Broke, Refused, Spent}
use Rattle.std.specs.declared.ops.ControlFlow.{ControlFlow}
use Rattle.std.specs.declared.ops.ControlFlow.TheVariants.{Continue, Break}
use Rattle.stores.specs.declared.run.Run.{Run}

module _ (image : List ℕ) (h : Header) where
  -- a node of an image that loads, and stores that fit
  pub record Ready (n : ℕ) (run : Run) (words bytes : List ℕ) : Type 0 where
    pub loaded : load_of image ≡ Ok h
    pub first : 1 ≤ n
    pub last : n ≤ h.nodes
    pub fits : Fits run words
    pub room : length bytes ≡ most_text

  -- ---- the way from a control t₀ with its own frames fs₀, over every stack K: to a control, to a stop, or to where nothing is left for the next take

  pub record Came (t₀ : Ctl) (fs₀ : List Frame) (l₀ : ℕ) (σ₀ : Store) (t : Ctl) (fs : List Frame) (l : ℕ) (σ : Store) : Type 0 where
    pub path : (K : List Frame) → Go image h l₀ (going t₀ (fs₀ ++ K) σ₀) l (going t (fs ++ K) σ)

  pub record Stopped (t₀ : Ctl) (fs₀ : List Frame) (l₀ : ℕ) (σ₀ : Store) (why : Refusal) (place l : ℕ) : Type 0 where
    pub path : (K : List Frame) → Go image h l₀ (going t₀ (fs₀ ++ K) σ₀) l (stop why place)

  pub record Starved (t₀ : Ctl) (fs₀ : List Frame) (l₀ : ℕ) (σ₀ : Store) (p l : ℕ) : Type 0 where
    pub at : List Frame → Cfg
    pub path : (K : List Frame) → Go image h l₀ (going t₀ (fs₀ ++ K) σ₀) l (at K)
    pub takes : (K : List Frame) → cost (at K) ≡ 1
    pub place : (K : List Frame) → takes_at (at K) ≡ p
    pub none : l ≡ 0

  -- ---- what an outcome says: a value, a break of a node of the image, a refusal, a take that was refused

  abbrev pub Ways : Ctl → List Frame → ℕ → Store → ℕ → Store → Outcome → Type 0
  Ways t₀ fs₀ l₀ σ₀ l σ (Done v) = Came t₀ fs₀ l₀ σ₀ (ret v) [] l σ
  Ways t₀ fs₀ l₀ σ₀ l σ (Broke b v) = Came t₀ fs₀ l₀ σ₀ (brk b v) [] l σ × (1 ≤ b) × (b ≤ h.nodes)
  Ways t₀ fs₀ l₀ σ₀ l σ (Refused why place) = Stopped t₀ fs₀ l₀ σ₀ why place l
  Ways t₀ fs₀ l₀ σ₀ l σ (Spent place) = Starved t₀ fs₀ l₀ σ₀ place l

  pub record Post (t₀ : Ctl) (fs₀ : List Frame) (run : Run) (words bytes : List ℕ) (run' : Run) (words' bytes' : List ℕ) (r : Outcome) : Type 0 where
    pub ways : Ways t₀ fs₀ (takes_of run) (store_of run words bytes) (takes_of run') (store_of run' words' bytes') r
    pub fits : Fits run' words'
    pub room : length bytes' ≡ length bytes

  -- on to the control t with frames fs of its own, or out
  abbrev pub WaysOn : Ctl → List Frame → Ctl → List Frame → ℕ → Store → ℕ → Store → ControlFlow Outcome (Unit {0}) → Type 0
  WaysOn t₀ fs₀ t fs l₀ σ₀ l σ (Continue u) = Came t₀ fs₀ l₀ σ₀ t fs l σ
  WaysOn t₀ fs₀ t fs l₀ σ₀ l σ (Break r) = Ways t₀ fs₀ l₀ σ₀ l σ r

  pub record Advance (t₀ : Ctl) (fs₀ : List Frame) (t : Ctl) (fs : List Frame) (run : Run) (words bytes : List ℕ) (run' : Run) (words' bytes' : List ℕ) (r : ControlFlow Outcome (Unit {0})) : Type 0 where
    pub ways : WaysOn t₀ fs₀ t fs (takes_of run) (store_of run words bytes) (takes_of run') (store_of run' words' bytes') r
    pub fits : Fits run' words'
    pub room : length bytes' ≡ length bytes

  -- ---- what becomes of an outcome for which frames wait: a refusal, and a take that was refused, stay as they are

  pub record Same (run : Run) (words bytes : List ℕ) (run' : Run) (words' bytes' : List ℕ) : Type 0 where
    pub same_run : run' ≡ run
    pub same_words : words' ≡ words
    pub same_bytes : bytes' ≡ bytes

  abbrev pub AfterWays : List Frame → Run → List ℕ → List ℕ → Run → List ℕ → List ℕ → Outcome → Outcome → Type 0
  AfterWays fs run words bytes run' words' bytes' (Done v) r = Post (ret v) fs run words bytes run' words' bytes' r
  AfterWays fs run words bytes run' words' bytes' (Broke b v) r = 1 ≤ b → b ≤ h.nodes → Post (brk b v) fs run words bytes run' words' bytes' r
  AfterWays fs run words bytes run' words' bytes' (Refused why place) r = (r ≡ Refused why place) × Same run words bytes run' words' bytes'
  AfterWays fs run words bytes run' words' bytes' (Spent place) r = (r ≡ Spent place) × Same run words bytes run' words' bytes'

  pub record After (fs : List Frame) (one : Outcome) (run : Run) (words bytes : List ℕ) (run' : Run) (words' bytes' : List ℕ) (r : Outcome) : Type 0 where
    pub ways : AfterWays fs run words bytes run' words' bytes' one r

  abbrev pub AfterWaysOn : List Frame → Ctl → Run → List ℕ → List ℕ → Run → List ℕ → List ℕ → Outcome → ControlFlow Outcome (Unit {0}) → Type 0
  AfterWaysOn fs t run words bytes run' words' bytes' (Done v) r = Advance (ret v) fs t [] run words bytes run' words' bytes' r
  AfterWaysOn fs t run words bytes run' words' bytes' (Broke b v) r = 1 ≤ b → b ≤ h.nodes → Advance (brk b v) fs t [] run words bytes run' words' bytes' r
  AfterWaysOn fs t run words bytes run' words' bytes' (Refused why place) r = (r ≡ Break (Refused why place)) × Same run words bytes run' words' bytes'
  AfterWaysOn fs t run words bytes run' words' bytes' (Spent place) r = (r ≡ Break (Spent place)) × Same run words bytes run' words' bytes'

  pub record AfterOn (fs : List Frame) (t : Ctl) (one : Outcome) (run : Run) (words bytes : List ℕ) (run' : Run) (words' bytes' : List ℕ) (r : ControlFlow Outcome (Unit {0})) : Type 0 where
    pub ways : AfterWaysOn fs t run words bytes run' words' bytes' one r

  -- ---- of a function that has not all the stores, for whatever stands in the others

  abbrev pub AdvanceRun : Ctl → Ctl → Run → Run → ControlFlow Outcome (Unit {0}) → Type 0
  AdvanceRun t₀ t run run' r = (words bytes : List ℕ) → Fits run words → Advance t₀ [] t [] run words bytes run' words bytes r

  abbrev pub AfterRun : List Frame → Outcome → Run → Run → Outcome → Type 0
  AfterRun fs one run run' r = (words bytes : List ℕ) → Fits run words → After fs one run words bytes run' words bytes r

  abbrev pub AfterWords : List Frame → Outcome → Run → List ℕ → Run → List ℕ → Outcome → Type 0
  AfterWords fs one run words run' words' r = (bytes : List ℕ) → After fs one run words bytes run' words' bytes r

  abbrev pub AfterText : List Frame → Outcome → Run → List ℕ → Run → List ℕ → Outcome → Type 0
  AfterText fs one run bytes run' bytes' r = (words : List ℕ) → Fits run words → After fs one run words bytes run' words bytes' r

  abbrev pub AfterRunOn : List Frame → Ctl → Outcome → Run → Run → ControlFlow Outcome (Unit {0}) → Type 0
  AfterRunOn fs t one run run' r = (words bytes : List ℕ) → Fits run words → AfterOn fs t one run words bytes run' words bytes r

  abbrev pub AfterWordsOn : List Frame → Ctl → Outcome → Run → List ℕ → Run → List ℕ → ControlFlow Outcome (Unit {0}) → Type 0
  AfterWordsOn fs t one run words run' words' r = (bytes : List ℕ) → AfterOn fs t one run words bytes run' words' bytes r

  -- of one that only reads
  abbrev pub Gives : Ctl → Run → List ℕ → Outcome → Type 0
  Gives t₀ run words r = (bytes : List ℕ) → Post t₀ [] run words bytes run words bytes r

  abbrev pub PostWords : Ctl → List Frame → Run → List ℕ → Run → List ℕ → Outcome → Type 0
  PostWords t₀ fs₀ run words run' words' r = (bytes : List ℕ) → Post t₀ fs₀ run words bytes run' words' bytes r

-- of one that knows no image
abbrev pub EveryAfterRun : List Frame → Outcome → Run → Run → Outcome → Type 0
EveryAfterRun fs one run run' r = (image : List ℕ) (h : Header) → AfterRun image h fs one run run' r

-- a turn of a loop takes
pub record Falls (r : ControlFlow Outcome (Unit {0})) (run run' : Run) : Type 0 where
  pub less : r ≡ Continue tt → takes_of run' < takes_of run
