-- Steps that do not disturb each other answer a merge as they answer their own streams,
-- since a step of one stream can be moved past the whole of the other, one reply at a time.
use mathlib.Core.Path.{◌≡◌, refl, sym, ap, ◌∙◌}
use mathlib.Core.Logic.{◌⊎◌}
use mathlib.Core.List.{List, [], ◌∷◌}
use Rattle.two_searches.specs.Streams.{answers, final, Merge, done, of-first, of-second, firsts, seconds, either, AsAlone}
use Rattle.two_searches.specs.Steps.{Independent}

module _ {S X Y O P : Type 0} {I : S → Type 0} {f : X → S → O × S} {g : Y → S → P × S} (apart : Independent I f g) where
  -- a step of the second stream before the whole of the first changes none of its answers
  past_first : (y : Y) (xs : List X) (s : S) → I s → answers f xs (g y s).1 ≡ answers f xs s
  unfolding answers
  past_first y [] s h = refl
  past_first y (x ∷ xs) s h =
      rw (apart.first-answer x y s h, apart.commute x y s h, past_first y xs (f x s).1 (apart.first-keeps x s h))

  -- and may as well come after it
  past_end : (y : Y) (xs : List X) (s : S) → I s → final f xs (g y s).1 ≡ (g y (final f xs s)).1
  unfolding final
  past_end y [] s h = refl
  past_end y (x ∷ xs) s h = rw (apart.commute x y s h, past_end y xs (f x s).1 (apart.first-keeps x s h))

  -- a step of the first stream before the whole of the second changes none of its answers
  past-second : (x : X) (ys : List Y) (s : S) → I s → answers g ys (f x s).1 ≡ answers g ys s
  unfolding answers
  past-second x [] s h = refl
  past-second x (y ∷ ys) s h =
      rw (apart.second-answer x y s h, ← apart.commute x y s h, past-second x ys (g y s).1 (apart.second-keeps y s h))

  -- two whole streams, in either order
  pub ends-alike : (xs : List X) (ys : List Y) (s : S) → I s → final g ys (final f xs s) ≡ final f xs (final g ys s)
  unfolding final
  ends-alike xs [] s h = refl
  ends-alike xs (y ∷ ys) s h = rw (← past_end y xs s h) (ends-alike xs ys (g y s).1 (apart.second-keeps y s h))

  pub as-alone : {xs : List X} {ys : List Y} {zs : List (X ⊎ Y)} → Merge xs ys zs → (s : S) → I s → AsAlone f g xs ys zs s
  unfolding answers final either firsts seconds
  as-alone done s h = record { first = refl; second = refl; end = refl; other-end = refl }
  as-alone (of-first {x = x} {xs = xs} {ys = ys} m) s h =
      let k = as-alone m (f x s).1 (apart.first-keeps x s h) in
      record {
        first = ap {B = List O} (λ l. (f x s).0 ∷ l) k.first;
        second = k.second ∙ past-second x ys s h;
        end = k.end;
        other-end = k.end ∙ ends-alike (x ∷ xs) ys s h;
      }
  as-alone (of-second {y = y} {xs = xs} {ys = ys} m) s h =
      let k = as-alone m (g y s).1 (apart.second-keeps y s h) in
      record {
        first = k.first ∙ past_first y xs s h;
        second = ap {B = List P} (λ l. (g y s).0 ∷ l) k.second;
        end = k.other-end ∙ sym (ends-alike xs (y ∷ ys) s h);
        other-end = k.other-end;
      }

  -- two merges of the same streams end in the same state
  pub same_end : {xs : List X} {ys : List Y} {zs ws : List (X ⊎ Y)} → Merge xs ys zs → Merge xs ys ws → (s : S) → I s
      → final (either f g) zs s ≡ final (either f g) ws s
  same_end m n s h = (as-alone m s h).end ∙ sym (as-alone n s h).end
