-- Items fed one by one, over any call: what it gives, that one call of all is the same, and what holds at each turn of
-- a loop that feeds them.
use mathlib.Core.Bool.{Bool, true, false, cond, ◌&&◌}
use mathlib.Core.List.{List, [], ◌∷◌, ◌++◌}
use mathlib.Core.Path.{◌≡◌, refl, sym, ap, subst, ◌∙◌}
use Prim.Native.Nat.{ℕ, suc, ◌+◌, ◌≤◌}
use native.Mathlib.Omega.{arith}
use lib.ListN.{length, drop, length-drop, drop_of_length-le}
use lib.Dec.{eqb}
use borrow.Author.Tests.{eqb-true, eqb-false, eq-eqb, ne_eqb}
use Rattle.stream.specs.Pending.{Pending, sound_pending}
use Rattle.stream.specs.Step.{Step}
use Rattle.stream.specs.Call.{Rules, Machine, Reply, reply, after_step, call_by}
use Rattle.stream.specs.Feed.{Fed, fed, one_more_taken, after, AllTaken, feed, Singly, list_by}
use Rattle.stream.specs.Demand3.{Usable}
use Rattle.stream.proofs.CallLaws.{Keeping, refused-same}

one_inside : {A : Type 0} (l : List A) (i : ℕ) {a : A} {k : List A} → drop i l ≡ a ∷ k → i + 1 ≤ length l
one_inside l i {a} {k} e = omega (arith, ap length e, length-drop i l)

module _ {State A : Type 0} (call : Machine State → A → Reply State) where
  fed-taken : (m : Machine State) (a : A) (l : List A) → (call m a).number ≡ 0
      → feed call m (a ∷ l) ≡ one_more_taken (feed call (call m a).left l)
  fed-taken m a l h = rw (eq-eqb (call m a).number 0 h)

  fed-refused : (m : Machine State) (a : A) (l : List A) → ((call m a).number ≡ 0 → ⊥)
      → feed call m (a ∷ l) ≡ fed 0 (call m a).number (call m a).left
  fed-refused m a l h = rw (ne_eqb (call m a).number 0 h)

  -- where every call answers number 0
  pub feed-all : (m : Machine State) (l : List A) → AllTaken call m l
      → feed call m l ≡ record { taken = length l; number = 0; left = after call m l }
  feed-all m [] h = refl
  feed-all m (a ∷ l) h = fed-taken m a l h.0 ∙ ap one_more_taken (feed-all (call m a).left l h.1)

  -- T-01 in its own words, where a refused call changes nothing
  module _ (same : (m : Machine State) (a : A) → ((call m a).number ≡ 0 → ⊥) → (call m a).left ≡ m) where
    pub fed_singly : (m : Machine State) (l : List A) → Singly call m l (feed call m l)
    fed_singly m [] = record {
      all-taken = tt;
      left = refl;
      none-refused = λ _. refl;
      refused = λ n. absurd (n refl);
    }
    fed_singly m (a ∷ l) = by (eqb (call m a).number 0) refl (fed_singly (call m a).left l)
      where
        by : (t : Bool) → eqb (call m a).number 0 ≡ t → Singly call (call m a).left l (feed call (call m a).left l)
            → Singly call m (a ∷ l)
            (cond t (one_more_taken (feed call (call m a).left l)) (fed 0 (call m a).number (call m a).left))
        by true e s = record {
          all-taken = (eqb-true (call m a).number 0 e, s.all-taken);
          left = s.left;
          none-refused = λ z. omega (arith, s.none-refused z);
          refused = λ n.
              let r = s.refused n in
              record { item = r.item; behind = r.behind; is-next = r.is-next; number = r.number };
        }
        by false e s =
            let n : (call m a).number ≡ 0 → ⊥ = eqb-false (call m a).number 0 e in
            record {
              all-taken = tt;
              left = same m a n;
              none-refused = λ z. absurd (n z);
              refused = λ _. record {
                item = a;
                behind = l;
                is-next = refl;
                number = ap (λ (x : Machine State). (call x a).number) (same m a n);
              };
            }

  -- two lists, one after the other
  pub after-append : (m : Machine State) (k l : List A) → after call m (k ++ l) ≡ after call (after call m k) l
  after-append m [] l = refl
  after-append m (a ∷ k) l = after-append (call m a).left k l

  pub taken-append : (m : Machine State) (k l : List A) → AllTaken call m (k ++ l)
      → AllTaken call m k × AllTaken call (after call m k) l
  taken-append m [] l h = (tt, h)
  taken-append m (a ∷ k) l h =
      let rest = taken-append (call m a).left k l h.1 in
      ((h.0, rest.0), rest.1)

  -- what each call keeps
  pub after-keeps : (K : Machine State → Type 0) → ((m : Machine State) (a : A) → K m → K (call m a).left)
      → (m : Machine State) (l : List A) → K m → K (after call m l)
  after-keeps K keeps m [] k = k
  after-keeps K keeps m (a ∷ l) k = after-keeps K keeps (call m a).left l (keeps m a k)

  pub taken-within : (m : Machine State) (l : List A) → (feed call m l).taken ≤ length l
  taken-within m [] = omega arith
  taken-within m (a ∷ l) = by (eqb (call m a).number 0) (taken-within (call m a).left l)
    where
      by : (t : Bool) → (feed call (call m a).left l).taken ≤ length l
          → (cond t (one_more_taken (feed call (call m a).left l)) (fed 0 (call m a).number (call m a).left)).taken
          ≤ length (a ∷ l)
      by true h = omega arith
      by false h = omega arith

  -- what each call keeps
  pub feed-keeps : (K : Machine State → Type 0) → ((m : Machine State) (a : A) → K m → K (call m a).left)
      → (m : Machine State) (l : List A) → K m → K (feed call m l).left
  feed-keeps K keeps m [] k = k
  feed-keeps K keeps m (a ∷ l) k =
      by (eqb (call m a).number 0) (keeps m a k) (feed-keeps K keeps (call m a).left l (keeps m a k))
    where
      by : (t : Bool) → K (call m a).left → K (feed call (call m a).left l).left
          → K (cond t (one_more_taken (feed call (call m a).left l)) (fed 0 (call m a).number (call m a).left)).left
      by true one all = all
      by false one all = one

  -- i items taken before
  abbrev more : ℕ → Fed State → Fed State
  more i f = fed (i + f.taken) f.number f.left

  -- The invariant of a loop that feeds the items l to m: i are taken and have left the machine n
  pub record Feeding (m : Machine State) (l : List A) (i : ℕ) (n : Machine State) : Type 0 where
    pub within : i ≤ length l
    pub same : feed call m l ≡ more i (feed call n (drop i l))

  pub none-fed : (m : Machine State) (l : List A) → Feeding m l 0 m
  none-fed m l =
      let f = feed call m l in
      record { within = omega arith; same = ap (λ (k : ℕ). fed k f.number f.left) (omega arith) }

  module _ {m : Machine State} {l : List A} {i : ℕ} {n : Machine State} (f : Feeding m l i n) where
    -- a is the next item
    to_come_lem : (a : A) → drop i l ≡ a ∷ drop (i + 1) l → feed call m l ≡ more i (feed call n (a ∷ drop (i + 1) l))
    to_come_lem a e = f.same ∙ ap (λ (k : List A). more i (feed call n k)) e

    -- it is taken
    pub one-fed : (a : A) → drop i l ≡ a ∷ drop (i + 1) l
        → (r : Reply State) → r ≡ call n a → r.number ≡ 0 → Feeding m l (i + 1) r.left
    one-fed a e r told t =
        let behind = drop (i + 1) l in
        let x = feed call (call n a).left behind in
        let count : i + suc x.taken ≡ i + 1 + x.taken = omega arith in
        let inside : i + 1 ≤ length l = one_inside l i e in
        let taken : (call n a).number ≡ 0 = ap (λ (y : Reply State). y.number) (sym told) ∙ t in
        subst (λ (y : Reply State). Feeding m l (i + 1) y.left) (sym told) (record {
          within = inside;
          same = to_come_lem a e ∙ ap (more i) (fed-taken n a behind taken)
              ∙ ap (λ (k : ℕ). fed k x.number x.left) count;
        })

    -- it is refused
    pub one-refused : (a : A) → drop i l ≡ a ∷ drop (i + 1) l
        → (r : Reply State) → r ≡ call n a → (r.number ≡ 0 → ⊥) → fed i r.number r.left ≡ feed call m l
    one-refused a e r told t =
        let count : i ≡ i + 0 = omega arith in
        let refused : (call n a).number ≡ 0 → ⊥ = λ z. t (ap (λ (y : Reply State). y.number) told ∙ z) in
        ap (λ (y : Reply State). fed i y.number y.left) told
        ∙ ap (λ (k : ℕ). fed k (call n a).number (call n a).left) count
        ∙ sym (to_come_lem a e ∙ ap (more i) (fed-refused n a (drop (i + 1) l) refused))

    -- none is left
    pub all-fed : (k : ℕ) → k ≡ length l → k ≤ i → fed k 0 n ≡ feed call m l
    all-fed k e h =
        let none : drop i l ≡ [] = drop_of_length-le l {i = i} (omega (arith, e)) in
        let count : k ≡ i + 0 = omega (arith, f.within) in
        ap (λ (t : ℕ). fed t 0 n) count
        ∙ sym (f.same ∙ ap (λ (t : List A). more i (feed call n t)) none)

-- ---- all in one call

module _ {State : Type 0} (rules : Rules State) {A : Type 0} (step : Pending → A → Step) (m : Machine State) where
  -- where 1 and 2 do not fall
  pub list_usable : (l : List A) → Keeping (Usable rules) m → list_by rules step m l ≡ feed (call_by rules step) m l
  unfolding list_by
  list_usable l u = rw (u.0.is-sound, u.1, u.0.is-long-enough)

  -- a list that is not empty needs no test of its own
  pub list-some : (a : A) (l : List A) → list_by rules step m (a ∷ l) ≡ feed (call_by rules step) m (a ∷ l)
  unfolding list_by call_by
  list-some a l = by (rules.sound m.state && sound_pending m.pending) (rules.long_enough m.state)
    where
      after_first : Reply State → Fed State
      after_first x =
          cond (eqb x.number 0) (one_more_taken (feed (call_by rules step) x.left l)) (fed 0 x.number x.left)

      call : Bool → Bool → Reply State
      call t u = cond t (cond u (after_step rules m (step m.pending a)) (reply 2 m)) (reply 1 m)

      by : (t u : Bool) → cond t (cond u (after_first (call t u)) (fed 0 2 m)) (fed 0 1 m) ≡ after_first (call t u)
      by true true = refl
      by true false = refl
      by false u = refl

  -- so it is what calls one by one give
  pub list_singly : (a : A) (l : List A) → Singly (call_by rules step) m (a ∷ l) (list_by rules step m (a ∷ l))
  list_singly a l = rw (list-some a l) (fed_singly (call_by rules step) (refused-same rules step) m (a ∷ l))

  -- an accepted list is taken whole
  pub list-taken : (l : List A) → (list_by rules step m l).number ≡ 0 → (list_by rules step m l).taken ≡ length l
  unfolding list_by
  list-taken [] z = by (rules.sound m.state && sound_pending m.pending) (rules.long_enough m.state)
    where
      by : (t u : Bool) → (cond t (cond u (fed 0 0 m) (fed 0 2 m)) (fed 0 1 m)).taken ≡ 0
      by true true = refl
      by true false = refl
      by false u = refl
  list-taken (a ∷ l) z = (list_singly a l).none-refused z

  -- where every call of its own would answer number 0
  pub list_all : (l : List A) → Keeping (Usable rules) m → AllTaken (call_by rules step) m l
      → list_by rules step m l ≡ fed (length l) 0 (after (call_by rules step) m l)
  list_all l u h = list_usable l u ∙ feed-all (call_by rules step) m l h

  pub list-within : (l : List A) → (list_by rules step m l).taken ≤ length l
  unfolding list_by
  list-within l =
      by (rules.sound m.state && sound_pending m.pending) (rules.long_enough m.state)
      (feed (call_by rules step) m l) (taken-within (call_by rules step) m l)
    where
      by : (t u : Bool) (f : Fed State) → f.taken ≤ length l → (cond t (cond u f (fed 0 2 m)) (fed 0 1 m)).taken ≤ length l
      by true true f h = h
      by true false f h = omega arith
      by false u f h = omega arith

  -- what each call keeps
  pub list-keeps : (K : Machine State → Type 0) → ((n : Machine State) (a : A) → K n → K (call_by rules step n a).left)
      → (l : List A) → K m → K (list_by rules step m l).left
  unfolding list_by
  list-keeps K keeps l k =
      by (rules.sound m.state && sound_pending m.pending) (rules.long_enough m.state)
      (feed (call_by rules step) m l) (feed-keeps (call_by rules step) K keeps m l k)
    where
      by : (t u : Bool) (f : Fed State) → K f.left → K (cond t (cond u f (fed 0 2 m)) (fed 0 1 m)).left
      by true true f h = h
      by true false f h = k
      by false u f h = k
