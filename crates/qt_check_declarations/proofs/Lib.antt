pub mod Global
