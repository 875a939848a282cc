-- Exact whole numbers and 16.16 fixed point: floors, bounds, and 4 by 4 matrices by columns.
use Rattle.std.specs.Prelude.{ℕ, ◌+◌, ◌*◌, List, [], ◌∷◌, ◌++◌, Bool, ◌&&◌, int_le, ℤ, pos, negsuc, neg_ℤ, ◌+ℤ◌, ◌*ℤ◌, ◌≤ℤ◌}
use Rattle.std.specs.Int.{int_div_euclid}
use lib.ListN.{get_or}

-- the greatest whole number that is at most n / d, for d above 0
abbrev pub floor_quotient : ℤ → ℤ → ℤ
floor_quotient n d = int_div_euclid n d

-- a number that isn't below 0
abbrev pub natural : ℤ → ℕ
natural (pos n) = n
natural (negsuc n) = 0

-- from -bound to bound
abbrev pub Within : ℕ → ℤ → Type 0
Within bound z = (neg_ℤ (pos bound) ≤ℤ z) × (z ≤ℤ pos bound)

-- the same as a test
abbrev pub is_within : ℕ → ℤ → Bool
is_within bound z = int_le (neg_ℤ (pos bound)) z && int_le z (pos bound)

-- from low to high, both included
abbrev pub is_between : ℤ → ℤ → ℤ → Bool
is_between low high z = int_le low z && int_le z high

-- entry i of a list of whole numbers
abbrev pub entry : List ℤ → ℕ → ℤ
entry xs i = get_or xs i (pos 0)

-- ---- 16.16 fixed point

-- one
abbrev pub fixed_one : ℕ
fixed_one = 65536

-- ---- matrices, by columns: row r, column c is entry 4 * c + r

-- row r of the matrix times a vector, before the division by 65536
abbrev pub row_sum : List ℤ → List ℤ → ℕ → ℤ
row_sum m v r =
    entry m r *ℤ entry v 0 +ℤ entry m (4 + r) *ℤ entry v 1 +ℤ entry m (8 + r) *ℤ entry v 2 +ℤ entry m (12 + r) *ℤ entry v 3

-- row r of the product of a matrix and a vector
abbrev pub row_product : List ℤ → List ℤ → ℕ → ℤ
row_product m v r = floor_quotient (row_sum m v r) (pos fixed_one)

-- the product of a matrix and a vector
abbrev pub transformed : List ℤ → List ℤ → List ℤ
transformed m v = row_product m v 0 ∷ row_product m v 1 ∷ row_product m v 2 ∷ row_product m v 3 ∷ []

-- column c of a matrix
abbrev pub column : List ℤ → ℕ → List ℤ
column m c = entry m (4 * c) ∷ entry m (4 * c + 1) ∷ entry m (4 * c + 2) ∷ entry m (4 * c + 3) ∷ []

-- column c of the product of two matrices
unfoldable pub product_column : List ℤ → List ℤ → ℕ → List ℤ
product_column a b c = transformed a (column b c)

-- the entries of the product of two matrices
unfoldable pub product_of : List ℤ → List ℤ → List ℤ
product_of a b = product_column a b 0 ++ product_column a b 1 ++ product_column a b 2 ++ product_column a b 3

-- a number of 32 bits
abbrev pub fits_i32 : ℤ → Bool
fits_i32 z = is_between (neg_ℤ (pos 2147483648)) (pos 2147483647) z

-- each of a column's four entries is a number of 32 bits
unfoldable pub column_fits : List ℤ → Bool
column_fits v = fits_i32 (entry v 0) && (fits_i32 (entry v 1) && (fits_i32 (entry v 2) && fits_i32 (entry v 3)))

-- each entry of the product of two matrices is a number of 32 bits
unfoldable pub product_fits : List ℤ → List ℤ → Bool
product_fits a b =
    column_fits (product_column a b 0) && (column_fits (product_column a b 1)
    && (column_fits (product_column a b 2) && column_fits (product_column a b 3)))
