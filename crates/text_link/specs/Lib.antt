pub mod LinkText
