-- The laws of attributes: what is told of them one by one, and what the worst of them says.
mod Laws
