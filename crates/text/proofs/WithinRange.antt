-- When a number stands within two others. Assumes nothing.
use mathlib.Core.Path.{◌≡◌, refl}
use mathlib.Core.Bool.{Bool, true, false, ◌&&◌}
use Prim.Native.Nat.{ℕ, ◌≤◌, ◌<◌}
use lib.Dec.{leb}
use borrow.Author.Tests.{le-leb, lt-leb}
use Rattle.meaning.specs.Text.{within}

pub in-range : (l h b : ℕ) → l ≤ b → b ≤ h → within l h b ≡ true
unfolding within
in-range l h b x y = rw (le-leb l b x, le-leb b h y)

pub under : (l h b : ℕ) → b < l → within l h b ≡ false
unfolding within
under l h b x = rw (lt-leb l b x)

pub over : (l h b : ℕ) → h < b → within l h b ≡ false
unfolding within
over l h b x = go (leb l b)
  where
    go : (t : Bool) → (t && leb b h) ≡ false
    go true = lt-leb b h x
    go false = refl
