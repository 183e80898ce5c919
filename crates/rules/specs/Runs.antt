-- What a run is, with no budget; and what every budget makes of it.
use Rattle.std.specs.Prelude.{ℕ, zero, suc, ◌+◌, ◌*◌, ◌≤◌, ◌≡◌, List, [], ◌++◌, length, drop}
use Rattle.packed.specs.declared.layout.Header.{Header}
use Rattle.rules.specs.declared.Value.{Value}
use Rattle.rules.specs.declared.Refusal.{Refusal}
use Rattle.rules.specs.declared.Refusal.TheVariants.{Nesting, Room}
use Rattle.rules.specs.declared.Answer.{Answer}
use Rattle.rules.specs.declared.Answer.TheVariants.{Value as AValue, Refused, Spent}
use Rattle.rules.specs.Store.{Store, empty}
use Rattle.rules.specs.Machine.{enter, ret, Cfg, going, stop, next, cost, takes_at}
use Rattle.rules.specs.Output.{Encoded, bits, nested, full, encoded, packed, bytes_for}

-- how a run ends: a refusal and its place, or a value and its store
pub data End : Cfg → Type 0 where
  refused : {why : Refusal} {place : ℕ} → End (stop why place)
  finished : {v : Value} {σ : Store} → End (going (ret v) [] σ)

module _ (image : List ℕ) (h : Header) where
  -- the root is entered at depth 1 with nothing in the store
  abbrev pub start : Cfg
  start = going (enter h.root 1) [] empty

  -- t transitions from c, and the takes among them
  unfoldable pub iter : ℕ → Cfg → Cfg
  iter zero c = c
  iter (suc t) c = iter t (next image h c)

  unfoldable pub costs : ℕ → Cfg → ℕ
  costs zero c = 0
  costs (suc t) c = cost c + costs t (next image h c)

  -- from c the rules come to d with exactly k takes
  pub record Comes (c : Cfg) (k : ℕ) (d : Cfg) : Type 0 where
    pub transitions : ℕ
    pub there : iter transitions c ≡ d
    pub takes : costs transitions c ≡ k

  -- "the rules bring it to an end after exactly n steps"
  pub record Ends (c : Cfg) (n : ℕ) (e : Cfg) : Type 0 where
    pub comes : Comes c n e
    pub end : End e

  -- about to take at place p after exactly k takes
  pub record AboutToTake (c : Cfg) (k p : ℕ) : Type 0 where
    pub at : Cfg
    pub comes : Comes c k at
    pub takes : cost at ≡ 1
    pub place : takes_at at ≡ p

  pub record NeverEnds (c : Cfg) : Type 0 where
    pub never : (n : ℕ) (e : Cfg) → Ends c n e → ⊥

  -- ---- the answer that an end gives, for an output of some length: "26, 27 last", at the root, with the steps of the end

  abbrev pub of_encoded : ℕ → Encoded → Answer
  of_encoded n (bits bs) = AValue (bytes_for bs) n
  of_encoded n nested = Refused Nesting h.root n
  of_encoded n full = Refused Room h.root n

  abbrev pub out_of : List ℕ → Encoded → List ℕ
  out_of out (bits bs) = packed (bytes_for bs) bs ++ drop (bytes_for bs) out
  out_of out nested = out
  out_of out full = out

  abbrev pub value_encoded : List ℕ → Value → Store → Encoded
  value_encoded out v σ = encoded image h σ 64 (8 * length out) v

  -- what the answer is, and what stands in the output then: "Every refusal leaves the output as found"; "Bytes past the length stay"
  pub data Answered (out : List ℕ) : Cfg → ℕ → Answer → List ℕ → Type 0 where
    stopped : {why : Refusal} {place n : ℕ} → Answered out (stop why place) n (Refused why place n) out
    valued : {v : Value} {σ : Store} {n : ℕ} → Answered out (going (ret v) [] σ) n (of_encoded n (value_encoded out v σ)) (out_of out (value_encoded out v σ))

  -- ---- a budget: "Budget b allows b takes; the next is refused"

  pub data Budgeted (out : List ℕ) (c : Cfg) (b : ℕ) : Answer → List ℕ → Type 0 where
    ended : {n : ℕ} {e : Cfg} {answer : Answer} {after : List ℕ} → Ends c n e → n ≤ b → Answered out e n answer after → Budgeted out c b answer after
    spent : {p : ℕ} → AboutToTake c b p → Budgeted out c b (Spent p b) out
