-- `lengths::is_product` meets its contract: a product over 2^64 - 1 is no number of 64 bits. Assumes nothing.
use Rattle.lengths.proofs.Exact as laws
use Rattle.lengths.proofs.is_product.Goals as goal

pub returns-then-too_big : goal.returns-then-too_big
returns-then-too_big c = search laws.product-beyond

pub overflow_mul-result : goal.overflow_mul-result
overflow_mul-result c = search laws.product-fits
