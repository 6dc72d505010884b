-- Many items, one after another: document 01, "The two sides of demand 3"; and in one call: document 02, T-01, "Whole
-- lists in one call". Over any engine.
use Rattle.std.specs.Prelude.{cond, List, [], ◌∷◌, ◌≡◌, ℕ, suc, eqb, length, take, drop}
use Rattle.stream.specs.Pending.{Pending}
use Rattle.stream.specs.Command.{Write}
use Rattle.stream.specs.Step.{Step, word_step, port_step}
use Rattle.stream.specs.Call.{Rules, Machine, Reply, on_usable, call_by}

-- how many items were taken, the number of the first refusal, 0 where there is none, and the machine at the end. T-01:
-- it "answers how many were taken", on a refusal too (reading 34)
pub record Fed (State : Type 0) : Type 0 where
  pub taken : ℕ
  pub number : ℕ
  pub left : Machine State

module _ {State : Type 0} where
  abbrev pub fed : ℕ → ℕ → Machine State → Fed State
  fed taken number m = record { taken = taken; number = number; left = m }

  -- an item more was taken, before the others
  abbrev pub one_more_taken : Fed State → Fed State
  one_more_taken f = fed (suc f.taken) f.number f.left

-- T-01: "place being the word's index", counted from 0, which is how many were taken before it; 0 where none is refused
unfoldable pub place_of : (number taken : ℕ) → ℕ
place_of number taken = cond (eqb number 0) 0 taken

-- calls one after the other, each with the machine that the one before left
module _ {State A : Type 0} (call : Machine State → A → Reply State) where
  -- the machine at the end
  abbrev pub after : Machine State → List A → Machine State
  after m [] = m
  after m (a ∷ rest) = after (call m a).left rest

  -- "every call answers number 0"
  abbrev pub AllTaken : Machine State → List A → Type 0
  AllTaken m [] = Unit {0}
  AllTaken m (a ∷ rest) = ((call m a).number ≡ 0) × AllTaken (call m a).left rest

  -- T-01, "feeding them singly in order; at the first refused word it stops"
  abbrev pub feed : Machine State → List A → Fed State
  feed m [] = fed 0 0 m
  feed m (a ∷ l) =
      cond (eqb (call m a).number 0)
      (one_more_taken (feed (call m a).left l))
      (fed 0 (call m a).number (call m a).left)

  -- the item behind those that were taken is refused, with the number that was answered
  pub record NextRefused (l : List A) (f : Fed State) : Type 0 where
    pub item : A
    pub behind : List A
    pub is-next : drop f.taken l ≡ item ∷ behind
    pub number : (call f.left item).number ≡ f.number

  -- What was fed is what calls one by one give: those taken are taken, "with the engine and lists as the words before
  -- left them", and the next, if there is one, is refused
  pub record Singly (m : Machine State) (l : List A) (f : Fed State) : Type 0 where
    pub all-taken : AllTaken m (take f.taken l)
    pub left : f.left ≡ after m (take f.taken l)
    pub none-refused : f.number ≡ 0 → f.taken ≡ length l
    pub refused : (f.number ≡ 0 → ⊥) → NextRefused l f

module _ {State : Type 0} (rules : Rules State) where
  -- all items in one call: 1 and 2, and then "The result equals feeding them singly in order"; "an empty slice still
  -- checks 1 and 2" (reading 35)
  unfoldable pub list_by : {A : Type 0} → (Pending → A → Step) → Machine State → List A → Fed State
  list_by step m l = on_usable rules m (λ (n : ℕ). fed 0 n m) (feed (call_by rules step) m l)

  -- T-01: "Take a slice of words in one call.", of any length (reading 33)
  abbrev pub words_call : Machine State → List ℕ → Fed State
  words_call = list_by word_step

  -- and port writes: the other side of demand 3 (reading 35)
  abbrev pub writes_call : Machine State → List Write → Fed State
  writes_call = list_by port_step
