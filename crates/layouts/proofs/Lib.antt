mod Laws
mod Sums
