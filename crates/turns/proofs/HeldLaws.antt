-- Parameters that are held, one item after the other.
use mathlib.Core.List.{List, [], ◌∷◌, ◌++◌, map-append}
use mathlib.Core.Path.{◌≡◌, refl, sym, ap, subst, ◌∙◌}
use Prim.Native.Nat.{ℕ, ◌+◌, ◌≤◌, ◌<◌}
use native.Mathlib.Omega.{arith}
use lib.ListN.{length, get_or, take, drop, set, length-drop, length-append}
use lib.Seq.{sets-eq, length-sets, length-take-le, get_or-drop, take-append_seam}
use Rattle.words.proofs.Over.{sets-append, take_next, drop-next}
use Rattle.stream.proofs.StepLaws.{length-snoc}
use Rattle.turns.specs.Inside.{Held}

pub next_one : {A : Type 0} (items : List A) (i : ℕ) (d : A) → i < length items
    → take 1 (drop i items) ≡ get_or items i d ∷ []
next_one items i d inside = ap (take 1) (drop-next items i d inside)

module _ {A : Type 0} {item : ℕ → A} {items : List A} {i : ℕ} {old : List ℕ} {to : ℕ} where
  -- none
  pub held_none : Held item items i old to old 0
  held_none = record { values = []; size = refl; items-are = refl; buffer = refl }

  -- one more
  pub held_more : {new : List ℕ} {j : ℕ} → Held item items i old to new j → i + j < length items → (d : A) (v : ℕ)
      → get_or items (i + j) d ≡ item v → Held item items i old to (set new (to + j) v) (j + 1)
  held_more {new} {j} h inside d v is =
      let long : j < length (drop i items) = omega (arith, length-drop i items) in
      record {
        values = h.values ++ v ∷ [];
        size = omega (arith, h.size, length-snoc h.values v);
        items-are = rw (take_next (drop i items) j d long, get_or-drop i items j d, is, h.items-are)
            (sym (map-append item h.values (v ∷ [])));
        buffer = sym (sets-append old to h.values (v ∷ []) ∙ rw (h.size, ← h.buffer));
      }

  pub held_one : i < length items → (d : A) (v : ℕ) → get_or items i d ≡ item v
      → Held item items i old to (set old to v) 1
  held_one inside d v is =
      record { values = v ∷ []; size = refl; items-are = next_one items i d inside ∙ rw is; buffer = refl }

  module _ {new : List ℕ} {many : ℕ} (h : Held item items i old to new many) where
    -- as many by another name
    pub held_as : {n : ℕ} → many ≡ n → Held item items i old to new n
    held_as e = subst (Held item items i old to new) e h

    pub same_length : length new ≡ length old
    same_length = ap length h.buffer ∙ length-sets old to h.values

    -- what is held then
    pub held_now : length old ≡ 32 → to + many ≤ 32 → take (to + many) new ≡ take to old ++ h.values
    held_now long room =
        let xs : List ℕ = h.values in
        let n : length (take to old ++ xs) ≡ to + many =
        length-append (take to old) xs ∙ rw (length-take-le to old (omega (arith, long)), h.size) in
        rw (h.buffer, sets-eq xs old to (omega (arith, long, h.size)), ← n)
        (take-append_seam (take to old ++ xs) (drop (to + length xs) old))
