-- A stack command by the mode, on the transform and the two long stacks, and what it reads of its parameter.
use Rattle.std.proofs.Common.{◌≡◌, ℕ, true, false, ◌||◌, refl}
use Rattle.state.specs.declared.Transform.{Transform}
use Rattle.state.specs.declared.Stacks.{Stacks}
use Rattle.state.specs.Mode.{uses_pair}
use Rattle.state.specs.With.{with_pair, with_projection, with_texture, with_error}
use Rattle.stacks.specs.declared.Matrices.{Matrices}
use Rattle.stacks.specs.declared.StackCommand.{StackCommand}
use Rattle.stacks.specs.declared.StackCommand.TheVariants.{Push, Pop, Store, Restore}
use Rattle.stacks.specs.Stack.{stored, loaded, pair_moved, pair_fails, run_pair, single_moved, single_fails, run_stack}
use Rattle.stacks.proofs.SingleLaws.{ran-texture as by-texture, ran-projection as by-projection}

-- a command on the pair changes nothing but the pair, its two stacks and the error flag
pair-alone : (k : StackCommand) (p : ℕ) (m : Matrices)
    → record {
      transform = with_error (with_pair m.transform (pair_moved k p m).transform.pair)
          (m.transform.error || pair_fails k p m.transform.pair.level);
      stacks = (pair_moved k p m).stacks;
    }
    ≡ run_pair k p m
unfolding pair_moved stored loaded
pair-alone Push p m = refl
pair-alone Pop p m = refl
pair-alone Store p m = refl
pair-alone Restore p m = refl

module _ (k : StackCommand) (p : ℕ) (t : Transform) (s : Stacks) where
  abbrev m : Matrices
  m = record { transform = t; stacks = s }

  -- in modes 1 and 2: the move on the pair and its two stacks, and the error flag where that is an error; nothing else
  -- changes
  pub ran_pair : uses_pair t.mode ≡ true
      → record {
        transform = with_error (with_pair t (pair_moved k p m).transform.pair) (t.error || pair_fails k p t.pair.level);
        stacks = (pair_moved k p m).stacks;
      }
      ≡ run_stack k p m
  unfolding run_stack
  ran_pair u = rw u (pair-alone k p m)

  -- in mode 3: the move on the texture stack, and the error flag where that is an error; nothing else changes
  pub ran-texture : t.mode ≡ 3
      → record {
        transform = with_error (with_texture t (single_moved k t.texture)) (t.error || single_fails k t.texture.level);
        stacks = s;
      }
      ≡ run_stack k p m
  unfolding run_stack
  ran-texture three = rw three (rw three at (by-texture k m three))

  -- in the modes that are left, which is mode 0 in a sound record: the same on the projection stack
  pub ran-projection : uses_pair t.mode ≡ false → (t.mode ≡ 3 → ⊥)
      → record {
        transform = with_error (with_projection t (single_moved k t.projection)) (t.error || single_fails k t.projection.level);
        stacks = s;
      }
      ≡ run_stack k p m
  unfolding run_stack
  ran-projection u other = rw u (by-projection k m other)

-- a push has no parameter
pub push_reads_none : (p q : ℕ) (m : Matrices) → run_stack Push p m ≡ run_stack Push q m
unfolding run_stack pair_moved pair_fails
push_reads_none p q m = refl
