pub mod DirectShapes
