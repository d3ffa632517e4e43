use Rattle.surface_state.proofs.Products.{applied_after}
use Rattle.surface_state.proofs.laws.products_give_after.Goals as goal

pub returns : goal.returns
returns c s rules e to products = applied_after s rules e to products
